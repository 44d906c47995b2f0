-- What a live segment is, for what runs a script.
pub use Rattle.live_segment.specs.LiveView.{ClientView, Laws, LiveView, PortView, is_station_of}
