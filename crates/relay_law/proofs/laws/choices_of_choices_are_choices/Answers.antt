use Rattle.relay_law.proofs.Picked.{choice_of_choice}
use Rattle.relay_law.proofs.laws.choices_of_choices_are_choices.Goals as goal

pub returns : goal.returns
returns c = choice_of_choice
