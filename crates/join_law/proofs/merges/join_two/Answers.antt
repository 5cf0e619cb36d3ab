use Rattle.join_law.proofs.merges.join_two.Goals as goal

-- not by the call's name, which an edit may take away
pub returns : goal.returns
returns g c = search
