-- What a step answers, with a complete message as its bytes.
use Rattle.bam_session.specs.Receiving.{Received, Awaits, Completes, Drops}
use Rattle.bam_session.specs.declared.incoming.BamStepped.{BamStepped}
use Rattle.bam_session.specs.declared.incoming.BamStepped.TheVariants.{On, Complete, Dropped}

abbrev pub shown : BamStepped → Received
shown (On s) = Awaits s
shown (Complete message) = Completes message.items
shown Dropped = Drops
