use Rattle.foreign_law.proofs.Runs.{messages_are_assembled}
use Rattle.foreign_law.proofs.laws.messages_are_made_of_taken_frames.Goals as goal

pub returns : goal.returns
returns c = messages_are_assembled
