-- The text that refusals are printed by.
use Rattle.std.specs.Prelude.{ℕ, List, ◌++◌, codes, string_bytes}
use Rattle.core_profile.specs.declared.fault.ProfileFault.{ProfileFault}
use Rattle.core_profile.specs.declared.fault.ProfileFault.TheVariants.{UnknownKey, WrongKind, OutOfRange, UnknownPolicy, OutOfMemory}
use Rattle.core_profile.specs.Tables.{name_of}

-- the code, and the key where there is one
abbrev pub fault_text : {A : Type 0} → ProfileFault A → List ℕ
fault_text (UnknownKey s) = codes "P1 " ++ string_bytes s
fault_text (WrongKind k) = codes "P2 " ++ name_of k
fault_text (OutOfRange k) = codes "P3 " ++ name_of k
fault_text (UnknownPolicy k) = codes "P4 " ++ name_of k
fault_text OutOfMemory = codes "P5"
