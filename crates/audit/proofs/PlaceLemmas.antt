-- The places of the last writes to keys, after one more write.
use Rattle.std.proofs.Common.{◌≡◌, ◌∙◌, ℕ, ◌+◌, ◌<◌, Bool, true, false, cond, List, [], ◌∷◌, ◌++◌, length, Option, Some, None, refl, sym}
use Rattle.std.proofs.Common.{ap, subst, arith, reverse}
use Rattle.std.specs.Prelude.{find}
use Rattle.std.specs.Map.{lookup}
use Rattle.std.specs.BTreeMap.{insert_entry}
use Rattle.std.specs.Cmp.Lexicographic.{slice_cmp}
use Rattle.std.specs.Option.{IfSome, option_map_or}
use Rattle.std.specs.Ordering.{nat_cmp, is_eq, match_ordering}
use Rattle.std.specs.Str.{bytes_eq}
use Rattle.std.specs.declared.cmp.Ordering.{Ordering}
use Rattle.std.specs.declared.cmp.Ordering.TheVariants.{Less, Equal, Greater}
use Rattle.std.proofs.lemmas.Bool.{true≢false}
use Rattle.std.proofs.lemmas.List.{reverse-append, length-append, get_or_append_left, get_or_at}
use Rattle.std.proofs.lemmas.Map.Text.{is_eq-slice_cmp}
use Rattle.std.proofs.lemmas.Slice.Eq.{bytes_eq-Decides}
use Rattle.protocol.specs.Basics.{Act, Touched}
use Rattle.audit.specs.Stretches.{own_act}
use Rattle.audit.specs.Books.{ArePlaces, act_at}
use Rattle.audit.proofs.RowLemmas.{flipped}

abbrev cmp : List ℕ → List ℕ → Ordering
cmp = slice_cmp nat_cmp

-- a value that is chosen by two tests of which not both hold
apart_tests : {V : Type 0} (a b : Bool) (v w : V) (rest : Option V) → (a ≡ true → b ≡ true → Some w ≡ Some v)
    → cond a (Some w) (cond b (Some v) rest) ≡ cond b (Some v) (cond a (Some w) rest)
apart_tests true true v w rest not_both = not_both refl refl
apart_tests true false v w rest not_both = refl
apart_tests false b v w rest not_both = refl

same_tests : {V : Type 0} (a : Bool) (v w : V) (rest : Option V) → cond a (Some v) rest ≡ cond a (Some v) (cond a (Some w) rest)
same_tests true v w rest = refl
same_tests false v w rest = refl

module _ {K : Type 0} (f : K → List ℕ) where
  abbrev key_cmp : K → K → Ordering
  key_cmp x y = cmp (f x) (f y)

  -- what is found at a key
  abbrev pub found : {V : Type 0} → List ℕ → List (K × V) → Option V
  found q es = lookup (λ k. is_eq (cmp q (f k))) es

  same_key : (x y : K) → cmp (f x) (f y) ≡ Equal → f x ≡ f y
  same_key x y e = (bytes_eq-Decides (f x) (f y)).0 (sym (is_eq-slice_cmp (f x) (f y)) ∙ ap is_eq e)

  never_both : (q : List ℕ) (k x : K) → cmp (f k) (f x) ≡ Greater → is_eq (cmp q (f x)) ≡ true → is_eq (cmp q (f k)) ≡ true → false ≡ true
  never_both q k x greater at_x at_k =
      let is_x = (bytes_eq-Decides q (f x)).0 (sym (is_eq-slice_cmp q (f x)) ∙ at_x) in
      let is_k = (bytes_eq-Decides q (f k)).0 (sym (is_eq-slice_cmp q (f k)) ∙ at_k) in
      sym (ap is_eq greater) ∙ is_eq-slice_cmp (f k) (f x) ∙ (bytes_eq-Decides (f k) (f x)).1 (sym is_k ∙ is_x)

  pub found_inserted : {V : Type 0} (k : K) (v : V) (es : List (K × V)) (q : List ℕ)
      → found q (insert_entry key_cmp es k v) ≡ cond (is_eq (cmp q (f k))) (Some v) (found q es)
  found_inserted k v [] q = refl
  found_inserted k v ((x, w) ∷ es) q = by (cmp (f k) (f x)) refl (found_inserted k v es q)
    where
      by : (o : Ordering) → cmp (f k) (f x) ≡ o
          → found q (insert_entry key_cmp es k v) ≡ cond (is_eq (cmp q (f k))) (Some v) (found q es)
          → found q (match_ordering o ((k, v) ∷ (x, w) ∷ es) ((x, v) ∷ es) ((x, w) ∷ insert_entry key_cmp es k v))
          ≡ cond (is_eq (cmp q (f k))) (Some v) (found q ((x, w) ∷ es))
      by Less e rest = refl
      by Equal e rest =
          subst (λ key. cond (is_eq (cmp q (f x))) (Some v) (found q es)
          ≡ cond (is_eq (cmp q key)) (Some v) (cond (is_eq (cmp q (f x))) (Some w) (found q es))) (sym (same_key k x e))
          (same_tests (is_eq (cmp q (f x))) v w (found q es))
      by Greater e rest =
          ap (λ o. cond (is_eq (cmp q (f x))) (Some w) o) rest
          ∙ apart_tests (is_eq (cmp q (f x))) (is_eq (cmp q (f k))) v w (found q es)
          (λ at_x at_k. absurd (true≢false (sym (never_both q k x e at_x at_k))))

-- the last act after one more write
own_after : (writes : List Touched) (t : Touched) (key : List ℕ)
    → own_act (writes ++ t ∷ []) key ≡ cond (bytes_eq t.key key) t.act (own_act writes key)
own_after writes t key =
    ap (λ ts. option_map_or (λ (write : Touched). write.act) (find (λ (write : Touched). bytes_eq write.key key) ts) Act.Read)
    (reverse-append writes (t ∷ []))
    ∙ by (bytes_eq t.key key)
  where
    by : (b : Bool) → option_map_or (λ (write : Touched). write.act)
        (cond b (Some t) (find (λ (write : Touched). bytes_eq write.key key) (reverse writes))) Act.Read
        ≡ cond b t.act (own_act writes key)
    by true = refl
    by false = refl

act_stays : (writes : List Touched) (t : Touched) (place : Option ℕ) → IfSome place (λ i. i < length writes)
    → act_at (writes ++ t ∷ []) place ≡ act_at writes place
act_stays writes t None within = refl
act_stays writes t (Some i) within =
    ap (λ (u : Touched). u.act) (get_or_append_left writes (t ∷ []) (record { key = []; act = Act.Read }) i within)

within_more : (n : ℕ) (place : Option ℕ) → IfSome place (λ i. i < n) → IfSome place (λ i. i < n + 1)
within_more n None within = within
within_more n (Some i) within = omega (arith, within)

module _ {K : Type 0} (f : K → List ℕ) (es : List (K × ℕ)) (writes : List Touched) (k : K) (t : Touched) (key : f k ≡ t.key)
    (are : ArePlaces f es writes) where
  abbrev after : List (K × ℕ)
  after = insert_entry (λ x y. cmp (f x) (f y)) es k (length writes)

  tested : (q : List ℕ) → is_eq (cmp q (f k)) ≡ bytes_eq t.key q
  tested q = is_eq-slice_cmp q (f k) ∙ flipped q (f k) ∙ ap (λ bytes. bytes_eq bytes q) key

  found_after : (q : List ℕ) → found f q after ≡ cond (bytes_eq t.key q) (Some (length writes)) (found f q es)
  found_after q =
      found_inserted f k (length writes) es q
      ∙ ap (λ b. cond b (Some (length writes)) (found f q es)) (tested q)

  longer : length (writes ++ t ∷ []) ≡ length writes + 1
  longer = length-append writes (t ∷ [])

  within_after : (b : Bool) (q : List ℕ)
      → IfSome (cond b (Some (length writes)) (found f q es)) (λ place. place < length (writes ++ t ∷ []))
  within_after true q = omega (arith, longer)
  within_after false q =
      subst (λ n. IfSome (found f q es) (λ place. place < n)) (sym longer) (within_more (length writes) (found f q es) (are.within q))

  last_after : (b : Bool) (q : List ℕ)
      → act_at (writes ++ t ∷ []) (cond b (Some (length writes)) (found f q es)) ≡ cond b t.act (own_act writes q)
  last_after true q = ap (λ (u : Touched). u.act) (get_or_at writes t [] (record { key = []; act = Act.Read }) (length writes) refl)
  last_after false q = act_stays writes t (found f q es) (are.within q) ∙ are.last q

  pub places_after : ArePlaces f after (writes ++ t ∷ [])
  places_after = record {
    within = λ q.
        subst (λ o. IfSome o (λ place. place < length (writes ++ t ∷ []))) (sym (found_after q)) (within_after (bytes_eq t.key q) q);
    last = λ q.
        ap (act_at (writes ++ t ∷ [])) (found_after q) ∙ last_after (bytes_eq t.key q) q ∙ sym (own_after writes t q);
  }
