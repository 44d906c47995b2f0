-- What a node remembers of the frames that it put, as it is kept.
use Rattle.node_parts.specs.Echoes.{Echoes}
use Rattle.node_parts.specs.declared.echoes.Echoes.TheInside.{Inside}

abbrev pub echoes_value : Inside → Echoes
echoes_value e = record { unseen = e.unseen.items; last = e.last; silent_until = e.silent_until }
