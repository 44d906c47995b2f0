-- The state of an incoming session as plain data.
use Rattle.session_table.specs.declared.incoming.Incoming.{Incoming}
use Rattle.session_table.specs.declared.incoming.Incoming.TheVariants.{Broadcast, Connection}
use Rattle.session_table.specs.declared.incoming.image.StateImage.{StateImage}
use Rattle.session_table.specs.declared.incoming.image.StateImage.TheVariants as image

-- the state that it is an image of
abbrev pub incoming_of : StateImage → Incoming
incoming_of (image.Broadcast s) = Broadcast s
incoming_of (image.Connection s) = Connection s
