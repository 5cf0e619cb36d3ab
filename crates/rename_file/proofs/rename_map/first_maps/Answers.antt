use Rattle.std.proofs.Common.{List, [], ◌∷◌, get_or}
use Rattle.join_law.proofs.Laws.{each_place}
use Rattle.rename_file.specs.File.{Bank, no_bank}
use Rattle.rename_file.specs.Fresh.{IsFirst}
use Rattle.rename_file.proofs.rename_map.first_maps.Goals as goal

pub returns-clause-first : goal.returns-clause-first
returns-clause-first c =
    let maps : List Bank = c.new.result ∷ c.new-2.result ∷ c.new-3.result ∷ c.new-4.result ∷ c.new-5.result ∷ c.new-6.result ∷ c.new-7.result ∷ c.new-8.result ∷ [] in
    each_place (λ i. IsFirst (get_or maps i no_bank) i) c.new.ensures c.new-2.ensures c.new-3.ensures c.new-4.ensures c.new-5.ensures c.new-6.ensures c.new-7.ensures c.new-8.ensures
