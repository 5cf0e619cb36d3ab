-- Checkpoint text version 1: the grammar, and the text of eight marks.
use Rattle.std.specs.Prelude.{◌≡◌, ℕ, ◌<◌, List, [], ◌++◌, drop, filter, nat_le}
use Rattle.std.specs.Option.{option_map_or}
use Rattle.checkpoint.specs.MarkValue.{MarkValue, state_of}
use Rattle.checkpoint_file.specs.Contexts.{ContextValue, FitsContext, context_text}
use Rattle.checkpoint_file.specs.Lines.{AreBytes, origin_line, seal_line, version_line}
use Rattle.hart_step.specs.State.{State}
use Rattle.join_law.specs.Eight.{eight_from, place_of}
use Rattle.join_law.specs.declared.places.Eight.{Eight}
use Rattle.origin_set.specs.OriginBytes.{origin_bytes}
use Rattle.origin_set.specs.OriginValue.{OriginValue}
use Rattle.paged_memory.specs.Pages.{PageValue, pages_of}
use Rattle.paged_memory.specs.Regions.{data_start}
use Rattle.sha2.specs.Sha256.{sha256}

-- ---- the grammar

-- eight texts one after the other
abbrev pub joined : Eight (List ℕ) → List ℕ
joined texts = texts.c0 ++ (texts.c1 ++ (texts.c2 ++ (texts.c3 ++ (texts.c4 ++ (texts.c5 ++ (texts.c6 ++ texts.c7))))))

-- the lines of contexts 0 to 7
abbrev pub contexts_text : Eight ContextValue → List ℕ
contexts_text contexts = joined (eight_from (λ i. context_text i (place_of contexts i)))

-- all that is sealed: the version, the origin's digest, and the lines of contexts
abbrev pub body : List ℕ → List ℕ → List ℕ
body digest contexts = version_line ++ (origin_line digest ++ contexts)

-- a checkpoint: the origin's digest, eight contexts and a seal
pub record CheckpointValue : Type 0 where
  pub digest : List ℕ
  pub contexts : Eight ContextValue
  pub seal : List ℕ

-- what is sealed of it
abbrev pub body_of : CheckpointValue → List ℕ
body_of value = body value.digest (contexts_text value.contexts)

-- it is the text's: there is one such at most
pub record IsValueOf (bytes : List ℕ) (value : CheckpointValue) : Type 0 where
  pub digest : AreBytes 32 value.digest
  pub contexts : (i : ℕ) → i < 8 → FitsContext (place_of value.contexts i)
  pub seal : AreBytes 32 value.seal
  pub text : bytes ≡ body_of value ++ seal_line value.seal

-- ---- the text of marks

-- the data pages
abbrev pub data_pages : List PageValue → List PageValue
data_pages pages = filter (λ page. nat_le data_start page.address) pages

-- a state at a count
abbrev pub context_of : ℕ → State → ContextValue
context_of count s = record {
  count = count;
  pc = s.pc;
  registers = drop 1 s.registers;
  pages = data_pages (pages_of s.memory);
}

-- the lines of a mark, whose state is plain RV64I's after its count
abbrev pub mark_text : MarkValue → List ℕ
mark_text mark = option_map_or (λ s. context_text mark.context (context_of mark.count s)) (state_of mark) []

-- the SHA-256 digest of an origin
abbrev pub digest_of : OriginValue → List ℕ
digest_of origin = sha256 (origin_bytes origin)

-- the lines of marks
abbrev pub marks_text : Eight MarkValue → List ℕ
marks_text marks = joined (eight_from (λ i. mark_text (place_of marks i)))

-- what is sealed of marks
abbrev pub body_of_marks : Eight MarkValue → List ℕ
body_of_marks marks = body (digest_of marks.c0.origin) (marks_text marks)

-- the text of marks: it ends in the seal, the SHA-256 digest of all before
abbrev pub text_of : Eight MarkValue → List ℕ
text_of marks = body_of_marks marks ++ seal_line (sha256 (body_of_marks marks))
