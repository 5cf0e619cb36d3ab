-- What stands at a place where a page may.
use Rattle.std.specs.Prelude.{ℕ, List}
use Rattle.checkpoint_file.specs.PageLines.{HasPages, IsNoPage, IsOver}
use Rattle.checkpoint_file.specs.declared.reading.pages.Step.{Step}
use Rattle.checkpoint_file.specs.declared.reading.pages.Step.TheVariants.{End, Page, Fault}

-- no page; a page, and what follows it; no pages that anything follows
abbrev pub IsStep : ℕ → List ℕ → Step → Type 0
IsStep least bytes End = IsNoPage bytes
IsStep least bytes (Page address next) = IsOver least bytes address next.now
IsStep least bytes Fault = (rest : List ℕ) → IsNoPage rest → HasPages least bytes rest → ⊥
