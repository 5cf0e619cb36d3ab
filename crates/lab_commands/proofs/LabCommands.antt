-- What is said of the commands, wherever the names of the codes lie.
use Rattle.std.proofs.Common.{◌≡◌, ◌∙◌, true, List, ℕ, ap, map, refl, subst, inl, Option, Result, Ok, Err, IfOk}
use Rattle.clap.specs.Simple.{is_simple}
use Rattle.clap.specs.Values.{kind_of}
use Rattle.clap.specs.Walk.{Row, Text}
use Rattle.clap.specs.Words.{App, HasMatchesOf, app_of, is_simple_and_free, subcommand_rows_of, with_subcommand}
use Rattle.clap.specs.declared.builder.command.Command.{Command}
use Rattle.clap.specs.declared.error.Error.{Error}
use Rattle.clap.specs.declared.error.kind.ErrorKind.TheVariants as kinds
use Rattle.clap.specs.declared.parser.matches.ArgMatches.{ArgMatches}
use Rattle.refusal_codes.specs.Codes.{code_names}
use Rattle.lab_commands.specs.CommandLine.{AreCodes, Asks, Is, IsAsked, IsLab, IsRead, Names, explain, lab, readers}
use Rattle.lab_commands.specs.declared.run.command_line.Invocation.{Invocation}

-- names of the codes
abbrev names_anywhere : Names
names_anywhere = record { ref_ptr = (0, 0); now = map (λ (name : List ℕ). record { ref_ptr = (0, 0); now = name }) code_names }

-- with `explain` beside those that read a file, they are all
pub IsLab-with_explain : {E : Type 0} (sub whole : Result Command E) (above : App) → above ≡ readers
    → IfOk sub (λ command. (names : Names) × AreCodes names × Is (explain names) command)
    → ((app : App) → IfOk sub (Is app) → IfOk whole (λ command. app_of command ≡ with_subcommand above app.top))
    → IfOk whole (λ command. IsLab (app_of command))
IsLab-with_explain sub (Err e) above is explains adds = tt
IsLab-with_explain (Err e) (Ok command) above is explains adds =
    (names_anywhere, refl, adds (explain names_anywhere) tt ∙ ap (λ (a : App). with_subcommand a (explain names_anywhere).top) is)
IsLab-with_explain (Ok sub) (Ok command) above is explains adds =
    (explains.0, explains.1, adds (explain explains.0) explains.2 ∙ ap (λ (a : App). with_subcommand a (explain explains.0).top) is)

-- `clap` states the matches of these commands, and the kinds of their errors
pub lab_is_simple_and_free : (app : App) → IsLab app → is_simple_and_free app ≡ true
lab_is_simple_and_free app is_lab = rw is_lab.2 refl

lab_is_simple : (app : App) → IsLab app → is_simple app ≡ true
lab_is_simple app is_lab = rw is_lab.2 refl

-- no memory for the commands
pub IsRead-out_of_memory : {T : Type 0} (P : App → T → Type 0) (words : List Text) (e : Error) → kind_of e ≡ kinds.OutOfMemory → IsRead P words (Err e)
IsRead-out_of_memory P words e memory = record { app = lab names_anywhere; is_lab = (names_anywhere, refl, refl); ok = tt; kinds = inl memory }

-- what is wrong with the words is so whatever is made of them
pub IsRead-err : {S T : Type 0} (P : App → S → Type 0) (Q : App → T → Type 0) (words : List Text) (e : Error) → IsRead P words (Err e) → IsRead Q words (Err e)
IsRead-err P Q words e read = record { app = read.app; is_lab = read.is_lab; ok = tt; kinds = read.kinds }

-- what the matches ask for is what the words do
pub IsRead-asked : (words : List Text) (matches : ArgMatches) (invocation : Invocation) → IsRead (λ app. HasMatchesOf app words) words (Ok matches)
    → IsAsked (subcommand_rows_of matches) invocation → IsRead (λ app. Asks app words) words (Ok invocation)
IsRead-asked words matches invocation read asked = record {
  app = read.app;
  is_lab = read.is_lab;
  ok = subst (λ (o : Option (Text × List Row)). IsAsked o invocation) (read.ok (lab_is_simple read.app read.is_lab)).1 asked;
  kinds = read.kinds;
}
