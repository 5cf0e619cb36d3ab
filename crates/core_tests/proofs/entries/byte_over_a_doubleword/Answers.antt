use Rattle.std.proofs.Common.{sym}
use Rattle.paged_memory.specs.declared.Width.TheVariants.{Byte}
use Rattle.core_tests.proofs.entries.byte_over_a_doubleword.Goals as goal

-- one byte is a width
pub write_access-requires : goal.write_access-requires
write_access-requires g c = (Byte, sym c.one_byte.ensures)
