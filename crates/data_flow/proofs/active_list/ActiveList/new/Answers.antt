use Rattle.std.proofs.Common.{refl}
use Rattle.data_flow.proofs.active_list.ActiveList.new.Goals as goal

pub returns : goal.returns
returns c = refl
