-- What values are read as.
use Rattle.std.proofs.Common.{◌≡◌, ◌∙◌, ℕ, ℤ, pos, negsuc, ◌≤◌, ◌&&◌, List, Bool, true, false, Option, Some, None, Ok, Err, refl, sym, ap}
use Rattle.std.proofs.Common.{subst, arith}
use Rattle.std.specs.Prelude.{nat_le}
use Rattle.std.proofs.lemmas.Bool.{and_parts}
use Rattle.std.proofs.lemmas.Bool.Decides.{nat_tests}
use Rattle.toml.specs.Data.{Data, Items, Members, string, integer, boolean, array, table, as_str, as_bool, as_integer, as_table, as_array}
use Rattle.cluster_file.specs.declared.error.ClusterError.{ClusterError}
use Rattle.cluster_file.specs.declared.error.Fault.{Fault}
use Rattle.cluster_file.specs.declared.error.Fault.TheVariants.{Missing, NoText, NoBoolean, NoNumber, NoTable, NoList}
use Rattle.cluster_file.specs.Mistakes.{mistake_at, reads_at, Says, IsRefused}
use Rattle.cluster_file.specs.Reads.{text_of, flag_of, number_of, number_within, table_of, list_of}
use Rattle.cluster_file.proofs.Refusals.{refused_at}

-- ---- texts

pub text_missing : (found : Option Data) → None ≡ found → text_of found ≡ Ok None
text_missing found e = let P : Option Data → Type 0 = λ f. text_of f ≡ Ok None in subst P e refl

pub text_there : (value : Data) (found : Option Data) (text : List ℕ) → Some value ≡ found → Some text ≡ as_str value
    → text_of found ≡ Ok (Some text)
text_there (string s) found text e is =
    let one : text ≡ s = cc in
    let P : Option Data → Type 0 = λ f. text_of f ≡ Ok (Some text) in subst P e (ap (λ t. Ok (Some t)) (sym one))
text_there value found text e is = absurd (cc)

no_text : (value : Data) → None ≡ as_str value → text_of (Some value) ≡ Err NoText
no_text (string s) is = absurd (cc)
no_text value is = refl

pub text_refused : (path key : List ℕ) (value : Data) (found : Option Data) (error : ClusterError) → Some value ≡ found
    → None ≡ as_str value
    → Says (mistake_at path key NoText) error → IsRefused (reads_at path key (text_of found)) error
text_refused path key value found error e is says =
    refused_at path key (text_of found) NoText error (ap text_of (sym e) ∙ no_text value is) says

-- ---- flags

pub flag_missing : (found : Option Data) → None ≡ found → flag_of found ≡ Ok false
flag_missing found e = let P : Option Data → Type 0 = λ f. flag_of f ≡ Ok false in subst P e refl

pub flag_there : (value : Data) (found : Option Data) (flag : Bool) → Some value ≡ found → Some flag ≡ as_bool value
    → flag_of found ≡ Ok flag
flag_there (boolean b) found flag e is =
    let one : flag ≡ b = cc in
    let P : Option Data → Type 0 = λ f. flag_of f ≡ Ok flag in subst P e (ap (λ t. Ok t) (sym one))
flag_there value found flag e is = absurd (cc)

no_flag : (value : Data) → None ≡ as_bool value → flag_of (Some value) ≡ Err NoBoolean
no_flag (boolean b) is = absurd (cc)
no_flag value is = refl

pub flag_refused : (path key : List ℕ) (value : Data) (found : Option Data) (error : ClusterError) → Some value ≡ found
    → None ≡ as_bool value
    → Says (mistake_at path key NoBoolean) error → IsRefused (reads_at path key (flag_of found)) error
flag_refused path key value found error e is says =
    refused_at path key (flag_of found) NoBoolean error (ap flag_of (sym e) ∙ no_flag value is) says

-- ---- tables

pub table_missing : (found : Option Data) → None ≡ found → table_of found ≡ Ok None
table_missing found e = let P : Option Data → Type 0 = λ f. table_of f ≡ Ok None in subst P e refl

pub table_there : (value : Data) (found : Option Data) (inner : Members) → Some value ≡ found → Some inner ≡ as_table value
    → table_of found ≡ Ok (Some inner)
table_there (table ms) found inner e is =
    let one : inner ≡ ms = cc in
    let P : Option Data → Type 0 = λ f. table_of f ≡ Ok (Some inner) in subst P e (ap (λ t. Ok (Some t)) (sym one))
table_there value found inner e is = absurd (cc)

no_table : (value : Data) → None ≡ as_table value → table_of (Some value) ≡ Err NoTable
no_table (table ms) is = absurd (cc)
no_table value is = refl

pub table_refused : (path key : List ℕ) (value : Data) (found : Option Data) (error : ClusterError) → Some value ≡ found
    → None ≡ as_table value
    → Says (mistake_at path key NoTable) error → IsRefused (reads_at path key (table_of found)) error
table_refused path key value found error e is says =
    refused_at path key (table_of found) NoTable error (ap table_of (sym e) ∙ no_table value is) says

-- ---- lists

pub list_missing : (path key : List ℕ) (found : Option Data) (error : ClusterError) → None ≡ found
    → Says (mistake_at path key Missing) error → IsRefused (reads_at path key (list_of found)) error
list_missing path key found error e says = refused_at path key (list_of found) Missing error (ap list_of (sym e)) says

pub list_there : (value : Data) (found : Option Data) (items : Items) → Some value ≡ found → Some items ≡ as_array value
    → list_of found ≡ Ok items
list_there (array ds) found items e is =
    let one : items ≡ ds = cc in
    let P : Option Data → Type 0 = λ f. list_of f ≡ Ok items in subst P e (ap (λ t. Ok t) (sym one))
list_there value found items e is = absurd (cc)

no_list : (value : Data) → None ≡ as_array value → list_of (Some value) ≡ Err NoList
no_list (array ds) is = absurd (cc)
no_list value is = refl

pub list_refused : (path key : List ℕ) (value : Data) (found : Option Data) (error : ClusterError) → Some value ≡ found
    → None ≡ as_array value
    → Says (mistake_at path key NoList) error → IsRefused (reads_at path key (list_of found)) error
list_refused path key value found error e is says =
    refused_at path key (list_of found) NoList error (ap list_of (sym e) ∙ no_list value is) says

-- ---- numbers

pub number_missing : (low high missing : ℕ) (found : Option Data) → None ≡ found → number_of low high missing found ≡ Ok missing
number_missing low high missing found e = ap (number_of low high missing) (sym e)

number_is : (low high missing : ℕ) (value : Data) (z : ℤ) → Some z ≡ as_integer value
    → number_of low high missing (Some value) ≡ number_within low high z
number_is low high missing (integer y) z is = let one : z ≡ y = cc in ap (number_within low high) (sym one)
number_is low high missing value z is = absurd (cc)

pub number_there : (low high missing : ℕ) (value : Data) (found : Option Data) (z : ℤ) (n : ℕ) → Some value ≡ found
    → Some z ≡ as_integer value
    → Ok n ≡ number_within low high z → number_of low high missing found ≡ Ok n
number_there low high missing value found z n e is within =
    ap (number_of low high missing) (sym e) ∙ (number_is low high missing value z is ∙ sym within)

no_number : (low high missing : ℕ) (value : Data) → None ≡ as_integer value → number_of low high missing (Some value) ≡ Err NoNumber
no_number low high missing (integer z) is = absurd (cc)
no_number low high missing value is = refl

pub number_refused : (low high missing : ℕ) (path key : List ℕ) (value : Data) (found : Option Data) (error : ClusterError)
    → Some value ≡ found
    → None ≡ as_integer value → Says (mistake_at path key NoNumber) error
    → IsRefused (reads_at path key (number_of low high missing found)) error
number_refused low high missing path key value found error e is says =
    refused_at path key (number_of low high missing found) NoNumber error
    (ap (number_of low high missing) (sym e) ∙ no_number low high missing value is) says

pub number_outside : (low high missing : ℕ) (path key : List ℕ) (value : Data) (found : Option Data) (z : ℤ) (fault : Fault)
    (error : ClusterError)
    → Some value ≡ found → Some z ≡ as_integer value → Err fault ≡ number_within low high z → Says (mistake_at path key fault) error
    → IsRefused (reads_at path key (number_of low high missing found)) error
number_outside low high missing path key value found z fault error e is within says =
    refused_at path key (number_of low high missing found) fault error
    (ap (number_of low high missing) (sym e) ∙ (number_is low high missing value z is ∙ sym within)) says

within_parts : (low high n m : ℕ) (b : Bool) → (nat_le low n && nat_le n high) ≡ b → Ok m ≡ number_within low high (pos n)
    → (low ≤ m) × (m ≤ high)
within_parts low high n m true is within =
    let (least, most) = and_parts (nat_le low n) (nat_le n high) is in
    let read = rw is at within in
    let one : m ≡ n = cc in grind (arith, nat_tests)
within_parts low high n m false is within = let read = rw is at within in absurd (cc)

-- a number that was read is from low to high
pub number_fits : (low high : ℕ) (z : ℤ) (m : ℕ) → Ok m ≡ number_within low high z → (low ≤ m) × (m ≤ high)
number_fits low high (pos n) m within = within_parts low high n m (nat_le low n && nat_le n high) refl within
number_fits low high (negsuc n) m within = absurd (cc)

pub ruleset number_reading = (number_missing, number_there, number_refused, number_outside, number_fits)
