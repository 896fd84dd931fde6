-- What an error says of a reading in several steps.
use Rattle.std.proofs.Common.{◌≡◌, List, ℕ, Ok, Err, Result, sym, ap, subst}
use Rattle.std.specs.Prelude.{IfErr}
use Rattle.cluster_file.specs.declared.error.ClusterError.{ClusterError}
use Rattle.cluster_file.specs.declared.error.ClusterError.TheVariants.{Syntax, Wrong, Memory}
use Rattle.cluster_file.specs.declared.error.Fault.{Fault}
use Rattle.cluster_file.specs.Mistakes.{Mistake, ◌>>=◌, mistake_at, reads_at, Says, SaysOf, IsRefused}

-- want of memory says nothing
pub refused_memory : {T : Type 0} (said : Result T Mistake) (error : ClusterError) → error ≡ Memory → IsRefused said error
refused_memory said error is =
    let P : ClusterError → Type 0 = λ e. IsRefused said e in
    let none : SaysOf said Memory = tt in subst P (sym is) (record { says = none })

says_of : {T : Type 0} (said : Result T Mistake) (mistake : Mistake) (error : ClusterError) → said ≡ Err mistake → Says mistake error
    → SaysOf said error
says_of said mistake (Wrong path fault) is says = (mistake, is, says)
says_of said mistake Memory is says = tt
says_of said mistake (Syntax line error) is says = says

-- an error that says a reading's mistake
pub refused_says : {T : Type 0} (said : Result T Mistake) (mistake : Mistake) (error : ClusterError) → said ≡ Err mistake
    → Says mistake error
    → IsRefused said error
refused_says said mistake error is says = record { says = says_of said mistake error is says }

-- the same of a key
pub refused_at : {T : Type 0} (path key : List ℕ) (said : Result T Fault) (fault : Fault) (error : ClusterError) → said ≡ Err fault
    → Says (mistake_at path key fault) error → IsRefused (reads_at path key said) error
refused_at path key said fault error is says =
    refused_says (reads_at path key said) (mistake_at path key fault) error (ap (reads_at path key) is) says

bound : {A B : Type 0} (said : Result A Mistake) (k : A → Result B Mistake) (error : ClusterError) → SaysOf said error
    → SaysOf (said >>= k) error
bound said k (Wrong path fault) h = (h.0, ap (λ r. r >>= k) h.1, h.2)
bound said k Memory h = tt
bound said k (Syntax line error) h = h

-- what was wrong at a first step is wrong
pub refused_bind : {A B : Type 0} {said : Result A Mistake} {error : ClusterError} (k : A → Result B Mistake) → IsRefused said error
    → IsRefused (said >>= k) error
refused_bind {said = said} {error = error} k h = record { says = bound said k error h.says }

more : {A B : Type 0} (path key : List ℕ) (said : Result A Fault) (k : A → Result B Fault) (error : ClusterError)
    → SaysOf (reads_at path key said) error → SaysOf (reads_at path key (said >>= k)) error
more path key (Ok value) k (Wrong at fault) h = let e = h.1 in absurd (cc)
more path key (Ok value) k Memory h = tt
more path key (Ok value) k (Syntax line error) h = h
more path key (Err fault) k (Wrong at w) h =
    let e = h.1 in
    let one : mistake_at path key fault ≡ h.0 = cc in (h.0, ap (λ (m : Mistake). Err m) one, h.2)
more path key (Err fault) k Memory h = tt
more path key (Err fault) k (Syntax line error) h = h

-- the same at one key
pub refused_more : {A B : Type 0} (path key : List ℕ) (said : Result A Fault) (k : A → Result B Fault) (error : ClusterError)
    → IsRefused (reads_at path key said) error → IsRefused (reads_at path key (said >>= k)) error
refused_more path key said k error h = record { says = more path key said k error h.says }

-- what was wrong at a second step is wrong where the first gave a value
pub refused_after : {A B : Type 0} {said : Result A Mistake} {value : A} {error : ClusterError} (k : A → Result B Mistake) → said ≡ Ok value
    → IsRefused (k value) error → IsRefused (said >>= k) error
refused_after {error = error} k is h =
    let P : Result _ Mistake → Type 0 = λ r. IsRefused (r >>= k) error in subst P (sym is) h

-- a second step gives what it gives where the first gave a value
pub ok_after : {A B E : Type 0} {said : Result A E} {value : A} {result : Result B E} (k : A → Result B E) → said ≡ Ok value
    → k value ≡ result → said >>= k ≡ result
ok_after {result = result} k is h = let P : Result _ _ → Type 0 = λ r. r >>= k ≡ result in subst P (sym is) h

-- a value at a key
pub ok_at : {T : Type 0} (path key : List ℕ) (said : Result T Fault) (value : T) → said ≡ Ok value → reads_at path key said ≡ Ok value
ok_at path key said value is = ap (reads_at path key) is

-- ---- errors that are handed on

-- an error that is handed on as it is
pub handed_on : {T X : Type 0} (said : Result T Mistake) (result : Result X ClusterError) (error : ClusterError) → result ≡ Err error
    → IsRefused said error → IfErr result (IsRefused said)
handed_on {X = X} said result error is h =
    let P : Result X ClusterError → Type 0 = λ r. IfErr r (IsRefused said) in subst P (sym is) h
