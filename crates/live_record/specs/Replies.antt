-- What calls are answered by, for what stands above.
pub use Rattle.reply_law.specs.Replies.{EachAt, EachKnown, EachShort, EventKnown, Follows, IsAnsweredBy, IsKnown, IsRefusal, expected, left_by, opens, reply_of}
