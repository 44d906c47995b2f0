-- The way of a frame, and the keys of the messages that it may belong to.
use Rattle.log_reports.specs.Keys.{transport_of}
use Rattle.log_reports.specs.declared.key.Key.{Key}
use Rattle.tp_wire.specs.declared.wire.Kind.{Kind}
use Rattle.log_decode.specs.declared.way.Way.{Way}

-- the key of a message that goes the way of a frame
abbrev pub key_of : Way → Kind → Key
key_of way kind = record { iface = way.iface; from = way.from; to = way.to; transport = transport_of kind }

-- the key of a message that goes the other way
abbrev pub key_back : Way → Kind → Key
key_back way kind = record { iface = way.iface; from = way.to; to = way.from; transport = transport_of kind }
