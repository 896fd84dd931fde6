-- What a parse gives, by clap's own words for simple commands.
use Rattle.std.proofs.Common.{◌≡◌, ◌≢◌, ◌∙◌, ℕ, ◌<◌, List, [], ◌∷◌, Option, Some, None, refl, sym, ap, ap₂, codes, option_map, true, arith}
use Rattle.std.specs.Prelude.{unwrap_or, slice_index, IfNone}
use Rattle.clap.specs.Words.{App, IsAmong, Kinds, Row, Text, first_of, is_simple, is_simple_and_free, new_app, with_subcommand}
use Rattle.clap.specs.declared.error.ErrorKind.{ErrorKind}
use Rattle.clap.proofs.OnLiterals.{clap_on_literals}
use Rattle.udp_edge.specs.CommandLines.{command_line, file_app, folder_app, program_name, SaysNothing}
use Rattle.udp_edge.specs.declared.command.Subcommand.TheVariants.{Run, Udp, Audit}

pub is_simple_line : is_simple command_line ≡ true
unfolding clap_on_literals
is_simple_line = refl

pub is_free_line : is_simple_and_free command_line ≡ true
unfolding clap_on_literals
is_free_line = refl

abbrev pub wants_subcommand : App → App
wants_subcommand a = record a { top = record a.top { subcommand_required = true } }

-- the command that is put together is the program's
pub line_made : (run udp audit named wanting one two line : App) → run ≡ file_app (codes "run") → udp ≡ folder_app (codes "udp")
    → audit ≡ file_app (codes "audit") → named ≡ new_app (codes "pcommit") → wanting ≡ wants_subcommand named
    → one ≡ with_subcommand wanting run.top → two ≡ with_subcommand one udp.top → line ≡ with_subcommand two audit.top
    → line ≡ command_line
line_made run udp audit named wanting one two line run_is udp_is audit_is named_is wanting_is one_is two_is line_is =
    let name_made : wanting ≡ program_name = wanting_is ∙ ap wants_subcommand named_is in
    let one_made : one ≡ with_subcommand program_name (file_app (codes "run")).top =
    one_is ∙ ap₂ with_subcommand name_made (ap (λ (a : App). a.top) run_is) in
    let two_made : two ≡ with_subcommand (with_subcommand program_name (file_app (codes "run")).top) (folder_app (codes "udp")).top =
    two_is ∙ ap₂ with_subcommand one_made (ap (λ (a : App). a.top) udp_is) in
    line_is ∙ ap₂ with_subcommand two_made (ap (λ (a : App). a.top) audit_is)

abbrev both : {B : Type 0} → (B → Text) → (B → List Row) → B → Text × List Row
both name_of rows_at b = (name_of b, rows_at b)

-- a name and rows, where each is known
pub named_rows : {B : Type 0} (name_of : B → Text) (rows_at : B → List Row) (o : Option B) (name : Text) (rows : List Row)
    → option_map name_of o ≡ Some name → option_map (λ (p : Text × List Row). p.1) (option_map (both name_of rows_at) o) ≡ Some rows
    → option_map (both name_of rows_at) o ≡ Some (name, rows)
named_rows name_of rows_at None name rows n r = absurd (cc (n))
named_rows name_of rows_at (Some b) name rows n r =
    let name_is : name_of b ≡ name = ap (λ (o : Option Text). unwrap_or o []) n in
    let rows_is : rows_at b ≡ rows = ap (λ (o : Option (List Row)). unwrap_or o []) r in
    ap₂ (λ (x : Text) (y : List Row). Some (x, y)) name_is rows_is

-- an error among kinds shows that there are some
pub among_some : (k : ErrorKind) (kinds : Kinds) → IsAmong k kinds → kinds ≢ []
among_some k [] h e = h
among_some k (x ∷ kinds) h e = absurd (cc (e))

-- ---- what a subcommand asks for

pub none_holds : {X : Type 0} (o : Option X) (P : Type 0) → P → IfNone o P
none_holds None P p = p
none_holds (Some x) P p = tt

-- without a file it asks for nothing
pub no_file : (name : Text) (rows : List Row) → first_of (codes "FILE") rows ≡ None → SaysNothing name rows
no_file name rows none (Run file) (named, given) = let e : None ≡ Some file.now = sym none ∙ given in absurd (cc (e))
no_file name rows none (Udp file folder) (named, given, within) = let e : None ≡ Some file.now = sym none ∙ given in absurd (cc (e))
no_file name rows none (Audit file) (named, given) = let e : None ≡ Some file.now = sym none ∙ given in absurd (cc (e))

apart : (n m : ℕ) → m < n → n ≡ m → ⊥
apart n m lt e = absurd (omega (arith, lt, e))

-- nor does `udp` without a folder
pub no_folder : (name : Text) (rows : List Row) → name ≡ codes "udp" → first_of (codes "DIR") rows ≡ None → SaysNothing name rows
no_folder name rows is none (Run file) (named, given) =
    apart 117 114 (omega arith) (ap (λ (xs : Text). slice_index xs 0) (sym is ∙ named))
no_folder name rows is none (Udp file folder) (named, given, within) =
    let e : None ≡ Some folder.now = sym none ∙ within in absurd (cc (e))
no_folder name rows is none (Audit file) (named, given) =
    apart 117 97 (omega arith) (ap (λ (xs : Text). slice_index xs 0) (sym is ∙ named))
