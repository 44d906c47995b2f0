use Rattle.decode_law.proofs.Drives.{drives_heard}
use Rattle.decode_law.proofs.laws.undisturbed_drives_are_heard.Goals as goal

pub returns : goal.returns
returns c = drives_heard c.messages_are_undisturbed.ensures c.undisturbed_messages_are_heard.ensures
