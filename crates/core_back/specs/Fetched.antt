-- How entries are renamed and fetched.
use Rattle.std.specs.Prelude.{◌≡◌, ℕ, ◌+◌, ◌<◌, ◌≤◌, Bool, List, [], ◌∷◌, ◌++◌, length, map, slice_set}
use Rattle.std.specs.List.{range_with_len}
use Rattle.rv64_decode.specs.declared.insn.Insn.{Insn}
use Rattle.hart_step.specs.State.{State}
use Rattle.core_profile.specs.declared.profile.Profile.{Profile}
use Rattle.core_view.specs.declared.entry.Stage.TheVariants.{Fetched}
use Rattle.core_view.specs.declared.note.EntryId.{EntryId}
use Rattle.core_view.specs.View.{Context, entry_at}
use Rattle.core_view.specs.Events.{rename_event}
use Rattle.lawful_cycle.specs.Rename.{CanRename}
use Rattle.lawful_cycle.specs.Fetch.{IsBlock, TakesInTurn}
use Rattle.data_flow.specs.Flow.{Flow}
use Rattle.core_context.specs.Track.{Track, renamed_one}
use Rattle.core_context.specs.Left.{IsEventAt}
use Rattle.core_context.specs.Renamable.{IsRenamable}
use Rattle.core_context.specs.Cores.{IsCore}
use Rattle.core_back.specs.Machine.{Machine, context_at, with_context}

-- the entries of a context with these stamps
abbrev pub ids_of : ℕ → List ℕ → List EntryId
ids_of c stamps = map (λ k. record { context = c; stamp = k }) stamps

-- ---- renaming

-- the oldest fetched entry of a context, which could be, was renamed
pub record IsRenamed (old new : Machine) (c stamp : ℕ) : Type 0 where
  pub place : ℕ
  pub within : place < length (context_at old c).flight
  pub stamp_is : (entry_at (context_at old c) place).stamp ≡ stamp
  pub fetched : (entry_at (context_at old c) place).stage ≡ Fetched
  pub can : CanRename old.view c (entry_at (context_at old c) place)
  pub after : new ≡ with_context old c (rename_event old.view.cycle (context_at old c) place)

-- oldest fetched entries of a context, with these stamps, were renamed one by one, each with a stamp within a limit
abbrev pub AreRenamed : (c limit : ℕ) → Machine → List ℕ → Machine → Type 0
AreRenamed c limit m [] n = n ≡ m
AreRenamed c limit m (stamp ∷ stamps) n = (u : Machine) × (stamp ≤ limit) × IsRenamed m u c stamp × AreRenamed c limit u stamps n

-- such entries were renamed, no more than a width lists with those before them; they are listed after these
pub record IsRenamedRun (c limit width : ℕ) (old new : Machine) (before after : List EntryId) : Type 0 where
  pub stamps : List ℕ
  pub renamed : AreRenamed c limit old stamps new
  pub listed : after ≡ before ++ ids_of c stamps
  pub most : length after ≤ width

-- the oldest fetched entry of a track, which can be, is renamed in a cycle
pub record IsRenamedOf (p : Profile) (cycle c limit stamp : ℕ) (f : Flow) (t : Track) (g : Flow) (u : Track) : Type 0 where
  pub can : IsRenamable f t p cycle stamp
  pub within : stamp ≤ limit
  pub fetched : (entry_at t.context t.renamed).stage ≡ Fetched
  pub after : u ≡ renamed_one cycle t
  pub event : IsEventAt c f g t u

-- oldest fetched entries of a track, with these stamps, are renamed in a cycle one by one
abbrev pub AreRenamedOf : (p : Profile) (cycle c limit : ℕ) → Flow → Track → List ℕ → Flow → Track → Type 0
AreRenamedOf p cycle c limit f t [] g u = (g ≡ f) × (u ≡ t)
AreRenamedOf p cycle c limit f t (stamp ∷ stamps) g u = (h : Flow) × (v : Track) × IsRenamedOf p cycle c limit stamp f t h v × AreRenamedOf p cycle c limit h v stamps g u

-- they are no more than a width lists with those before them, and are listed after these
pub record IsRunOf (p : Profile) (cycle c limit width : ℕ) (f : Flow) (t : Track) (g : Flow) (u : Track) (before after : List EntryId) : Type 0 where
  pub stamps : List ℕ
  pub renamed : AreRenamedOf p cycle c limit f t stamps g u
  pub listed : after ≡ before ++ ids_of c stamps
  pub most : length after ≤ width

-- ---- fetch

-- one context is another, so many stamps are given out, and so many more entries may be fetched in this cycle
abbrev pub with_block : Machine → ℕ → Context → ℕ → ℕ → Machine
with_block m c x number room = record m { view = record m.view { stamp = m.view.stamp + number; contexts = slice_set m.view.contexts c x }; fetch_room = room }

-- a context fetched so many entries, with stamps from one on, and its track stands for what it stood for, before the next stamp
pub record IsBlockBy (guesses : ℕ → Insn → ℕ → Bool) (cycle stamp c number : ℕ) (t u : Track) : Type 0 where
  pub block : IsBlock guesses cycle (range_with_len stamp number) t.context u.context
  pub kept : (start : State) (reorder : ℕ) (f : Flow) → IsCore start stamp reorder f [] c t → IsCore start (stamp + number) reorder f [] c u
  pub loads : u.load_places ≡ t.load_places
  pub stores : u.store_places ≡ t.store_places

-- a context fetched a block, as long as its turn has it; it is listed after what the picks before it fetched
pub record IsPickTurn (guesses : ℕ → ℕ → Insn → ℕ → Bool) (old new : Machine) (c num2 : ℕ) (before after : List EntryId) : Type 0 where
  pub number : ℕ
  pub is : new ≡ with_block old c (context_at new c) number new.fetch_room
  pub block : IsBlock (guesses c) old.view.cycle (range_with_len old.view.stamp number) (context_at old c) (context_at new c)
  pub takes : TakesInTurn num2 (context_at old c) (context_at new c) (length before) number
  pub listed : after ≡ before ++ ids_of c (range_with_len old.view.stamp number)
