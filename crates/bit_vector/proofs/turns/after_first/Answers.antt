use Rattle.bit_vector.proofs.FirstBits.{first_stays, first_goes, others_stay}
use Rattle.bit_vector.proofs.turns.after_first.Goals as goal

pub returns-clause-kept : goal.returns-clause-kept
returns-clause-kept c on = first_stays c.args.word c.from.result c.args.stays c.requires c.from.ensures on

pub returns-clause-clear : goal.returns-clause-clear
returns-clause-clear c off t one clear = first_goes c.args.word c.from.result t c.args.stays c.from.ensures off one clear

pub returns-clause-others : goal.returns-clause-others
returns-clause-others c t one clear i other = others_stay c.args.word c.from.result t c.args.stays c.requires c.from.ensures one clear i other
