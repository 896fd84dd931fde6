-- Clients whose lines are looked at one after another.
use Rattle.std.proofs.Common.{◌≡◌, ◌≢◌, ◌⊎◌, ◌≤◌, ◌<◌, ◌+◌, ◌++◌, ◌∷◌, ◌&&◌, [], List, ℕ, Option, Some, None, Bool, true, false, cond, not}
use Rattle.std.proofs.Common.{refl, sym, ap, ◌∙◌, subst, append_assoc, length, length-append, inl, inr, arith}
use Rattle.std.proofs.lemmas.Bool.{cases_lt, eq-eqb, ne_eqb}
use Rattle.std.proofs.lemmas.List.{append-nil}
use Rattle.std.proofs.lemmas.List.Elements.{filter-append}
use Rattle.std.proofs.lemmas.List.Folds.{list_all-append}
use Rattle.std.specs.List.{AllZip}
use Rattle.slab.specs.Slab.{Slab, get}
use Rattle.serving.specs.declared.group.Item.{Item}
use Rattle.serving.specs.declared.group.Origin.{Origin}
use Rattle.serving.specs.declared.group.Origin.TheVariants.{Client}
use Rattle.serving.specs.declared.taking.TheConstants.{MOST_ITEMS}
use Rattle.serving.specs.declared.terms.Terms.{Terms}
use Rattle.serving.specs.Clients.{ClientParts}
use Rattle.serving.specs.Groups.{is_nobody}
use Rattle.serving.proofs.HearLemmas.{heard_nothing}
use Rattle.serving.specs.Taking.{are_clients, is_at, is_from, items_at, HearsAll, HearsAt, HearsClient, HearsRange, IsItemOf, NoneWaits}
use Rattle.serving.specs.Taking.{NoneWaitsAt}

-- all items of a client are at its key
its_items : (terms : Terms) (key number : ℕ) (lines : List (List ℕ)) (taken : List Item)
    → AllZip (IsItemOf terms (Client key number)) lines taken
    → items_at key taken ≡ taken
its_items terms key number [] [] each = refl
its_items terms key number [] (item ∷ taken) each = absurd each
its_items terms key number (line ∷ lines) [] each = absurd each
its_items terms key number (line ∷ lines) (item ∷ taken) each =
    let here : is_at key item ≡ true = ap (is_from key) each.0.origin_is ∙ eq-eqb key key refl in
    ap (λ (b : Bool). cond b (item ∷ items_at key taken) (items_at key taken)) here
    ∙ ap (λ (rest : List Item). item ∷ rest) (its_items terms key number lines taken each.1)

-- and none is at another
no_others : (terms : Terms) (key number other : ℕ) (lines : List (List ℕ)) (taken : List Item) → other ≢ key
    → AllZip (IsItemOf terms (Client key number)) lines taken → items_at other taken ≡ []
no_others terms key number other [] [] apart each = refl
no_others terms key number other [] (item ∷ taken) apart each = absurd each
no_others terms key number other (line ∷ lines) [] apart each = absurd each
no_others terms key number other (line ∷ lines) (item ∷ taken) apart each =
    let here : is_at other item ≡ false = ap (is_from other) each.0.origin_is ∙ ne_eqb key other (λ e. apart (sym e)) in
    ap (λ (b : Bool). cond b (item ∷ items_at other taken) (items_at other taken)) here
    ∙ no_others terms key number other lines taken apart each.1

-- all are for a client
all_clients : (terms : Terms) (key number : ℕ) (lines : List (List ℕ)) (taken : List Item)
    → AllZip (IsItemOf terms (Client key number)) lines taken → are_clients taken ≡ true
all_clients terms key number [] [] each = refl
all_clients terms key number [] (item ∷ taken) each = absurd each
all_clients terms key number (line ∷ lines) [] each = absurd each
all_clients terms key number (line ∷ lines) (item ∷ taken) each =
    ap (λ (origin : Origin). not (is_nobody origin) && are_clients taken) each.0.origin_is
    ∙ all_clients terms key number lines taken each.1

both_clients : (a b : List Item) → are_clients a ≡ true → are_clients b ≡ true → are_clients (a ++ b) ≡ true
both_clients a b first second =
    list_all-append (λ (item : Item). not (is_nobody item.origin)) a b ∙ ap (λ (all : Bool). all && are_clients b) first ∙ second

-- where a group isn't full, it wasn't before
room_before : (between taken after : List Item) → after ≡ between ++ taken → length after < MOST_ITEMS → length between < MOST_ITEMS
room_before between taken after is room =
    let many : length after ≡ length between + length taken = ap length is ∙ length-append between taken in
    omega (arith, many, room)

none_waits_with : (seat now : Option ClientParts) (a b : List Item) → now ≡ seat → b ≡ a → NoneWaitsAt seat a → NoneWaitsAt now b
none_waits_with seat now a b is_now is_b none =
    subst (λ (s : Option ClientParts). NoneWaitsAt s b) (sym is_now) (subst (NoneWaitsAt seat) (sym is_b) none)

-- those of two lists
pub items_of_two : (key : ℕ) (a b : List Item) → items_at key (a ++ b) ≡ items_at key a ++ items_at key b
items_of_two key a b = filter-append (is_at key) a b

items_first : (key : ℕ) (a b : List Item) → items_at key b ≡ [] → items_at key (a ++ b) ≡ items_at key a
items_first key a b none =
    items_of_two key a b ∙ ap (λ (rest : List Item). items_at key a ++ rest) none ∙ append-nil (items_at key a)

items_second : (key : ℕ) (a b : List Item) → items_at key a ≡ [] → items_at key (a ++ b) ≡ items_at key b
items_second key a b none = items_of_two key a b ∙ ap (λ (front : List Item). front ++ items_at key b) none

hears_same : (terms : Terms) (key : ℕ) (seat : Option ClientParts) → HearsAt terms key seat seat []
hears_same terms key None = (refl, refl)
hears_same terms key (Some client) = heard_nothing terms key client

-- nobody looked at a key
hears_none : (terms : Terms) (key : ℕ) (old new : Option ClientParts) (items : List Item) → new ≡ old → items ≡ []
    → HearsAt terms key old new items
hears_none terms key old new items same none =
    subst (λ (now : Option ClientParts). HearsAt terms key old now items) (sym same)
    (subst (λ (taken : List Item). HearsAt terms key old old taken) (sym none) (hears_same terms key old))

hears_with : (terms : Terms) (key : ℕ) (old was new now : Option ClientParts) (a b : List Item) → was ≡ old → now ≡ new → b ≡ a
    → HearsAt terms key old new a → HearsAt terms key was now b
hears_with terms key old was new now a b is_was is_now is_b hears =
    subst (λ (o : Option ClientParts). HearsAt terms key o now b) (sym is_was)
    (subst (λ (n : Option ClientParts). HearsAt terms key old n b) (sym is_now)
    (subst (λ (taken : List Item). HearsAt terms key old new taken) (sym is_b) hears))

out_first : (from key to k : ℕ) → key ≤ to → (k < from) ⊎ (to ≤ k) → (k < from) ⊎ (key ≤ k)
out_first from key to k order (inl low) = inl low
out_first from key to k order (inr high) = inr (omega arith)

out_second : (from key to k : ℕ) → from ≤ key → (k < from) ⊎ (to ≤ k) → (k < key) ⊎ (to ≤ k)
out_second from key to k order (inl low) = inl (omega arith)
out_second from key to k order (inr high) = inr high

apart_from : (key k : ℕ) → (k < key) ⊎ (key + 1 ≤ k) → k ≢ key
apart_from key k (inl low) = omega arith
apart_from key k (inr high) = omega arith

-- none yet
pub range_none : (terms : Terms) (from : ℕ) (old : Slab ClientParts) (before : List Item)
    → HearsRange terms from from old old before before
range_none terms from old before = record {
  taken = [];
  after_is = sym (append-nil before);
  inside = λ key low high. absurd (omega arith);
  outside = λ key out. (refl, refl);
  theirs = refl;
  enough = λ room key low high. absurd (omega arith);
}

-- one client
pub range_one : (terms : Terms) (key : ℕ) (old new : Slab ClientParts) (was now : ClientParts) (before after : List Item)
    → get old key ≡ Some was → get new key ≡ Some now → ((other : ℕ) → other ≢ key → get new other ≡ get old other)
    → (taken : List Item) × (after ≡ before ++ taken) × HearsClient terms key was now taken
    × (length after < MOST_ITEMS → NoneWaits now taken)
    → HearsRange terms key (key + 1) old new before after
range_one terms key old new was now before after is_was is_now others (taken, after_is, hears, enough) =
    let front = hears.lines.front in
    let own : items_at key taken ≡ taken = its_items terms key hears.mid.number front.lines taken front.each in
    let here : HearsAt terms key (get old key) (get new key) (items_at key taken) =
    hears_with terms key (Some was) (get old key) (Some now) (get new key) taken (items_at key taken) is_was is_now own hears in
    record {
      taken = taken;
      after_is = after_is;
      inside = λ k low high.
          let same : key ≡ k = omega arith in
          subst (λ (q : ℕ). HearsAt terms q (get old q) (get new q) (items_at q taken)) same here;
      outside = λ k out.
          let apart : k ≢ key = apart_from key k out in
          (others k apart, no_others terms key hears.mid.number k front.lines taken apart front.each);
      theirs = all_clients terms key hears.mid.number front.lines taken front.each;
      enough = λ room k low high.
          let same : key ≡ k = omega arith in
          subst (λ (q : ℕ). NoneWaitsAt (get new q) (items_at q taken)) same
          (none_waits_with (Some now) (get new key) taken (items_at key taken) is_now own (enough room));
    }

-- nobody is there
pub range_empty : (terms : Terms) (key : ℕ) (old : Slab ClientParts) (before : List Item) → get old key ≡ None
    → HearsRange terms key (key + 1) old old before before
range_empty terms key old before none = record {
  taken = [];
  after_is = sym (append-nil before);
  inside = λ k low high.
      let same : key ≡ k = omega arith in
      subst (λ (q : ℕ). HearsAt terms q (get old q) (get old q) []) same (hears_same terms key (get old key));
  outside = λ k out. (refl, refl);
  theirs = refl;
  enough = λ room k low high.
      let same : key ≡ k = omega arith in
      subst (λ (q : ℕ). NoneWaitsAt (get old q) []) same (none_waits_with None (get old key) [] [] none refl tt);
}

-- one range and the next
pub range_join : (terms : Terms) (from key to : ℕ) (old mid new : Slab ClientParts) (before between after : List Item) → from ≤ key
    → key ≤ to → HearsRange terms from key old mid before between → HearsRange terms key to mid new between after
    → HearsRange terms from to old new before after
range_join terms from key to old mid new before between after low_order high_order one two = record {
  taken = one.taken ++ two.taken;
  after_is = two.after_is ∙ ap (λ (items : List Item). items ++ two.taken) one.after_is ∙ append_assoc before one.taken two.taken;
  inside = λ k low high. elim (cases_lt k key) [
    | inl below ↦
        let out = two.outside k (inl below) in
        hears_with terms k (get old k) (get old k) (get mid k) (get new k) (items_at k one.taken) (items_at k (one.taken ++ two.taken))
        refl out.0 (items_first k one.taken two.taken out.1) (one.inside k low below)
    | inr above ↦
        let out = one.outside k (inr above) in
        hears_with terms k (get mid k) (get old k) (get new k) (get new k) (items_at k two.taken) (items_at k (one.taken ++ two.taken))
        (sym out.0) refl (items_second k one.taken two.taken out.1) (two.inside k above high)
  ];
  outside = λ k out.
      let first = one.outside k (out_first from key to k high_order out) in
      let second = two.outside k (out_second from key to k low_order out) in
      (second.0 ∙ first.0, items_first k one.taken two.taken second.1 ∙ first.1);
  theirs = both_clients one.taken two.taken one.theirs two.theirs;
  enough = λ room k low high. elim (cases_lt k key) [
    | inl below ↦
        let out = two.outside k (inl below) in
        none_waits_with (get mid k) (get new k) (items_at k one.taken) (items_at k (one.taken ++ two.taken)) out.0
        (items_first k one.taken two.taken out.1) (one.enough (room_before between two.taken after two.after_is room) k low below)
    | inr above ↦
        let out = one.outside k (inr above) in
        none_waits_with (get new k) (get new k) (items_at k two.taken) (items_at k (one.taken ++ two.taken)) refl
        (items_second k one.taken two.taken out.1) (two.enough room k above high)
  ];
}

-- two ranges are all
pub range_all : (terms : Terms) (first places : ℕ) (old mid new : Slab ClientParts) (before between after : List Item)
    → first ≤ places → ((key : ℕ) → places ≤ key → get old key ≡ None)
    → HearsRange terms first places old mid before between → HearsRange terms 0 first mid new between after
    → HearsAll terms old new before after
range_all terms first places old mid new before between after order empty one two = record {
  taken = one.taken ++ two.taken;
  after_is = two.after_is ∙ ap (λ (items : List Item). items ++ two.taken) one.after_is ∙ append_assoc before one.taken two.taken;
  each = λ k. elim (cases_lt k first) [
    | inl below ↦
        let out = one.outside k (inl below) in
        hears_with terms k (get mid k) (get old k) (get new k) (get new k) (items_at k two.taken) (items_at k (one.taken ++ two.taken))
        (sym out.0) refl (items_second k one.taken two.taken out.1) (two.inside k (omega arith) below)
    | inr above ↦
        let out = two.outside k (inr above) in
        elim (cases_lt k places) [
          | inl within ↦
              hears_with terms k (get old k) (get old k) (get mid k) (get new k) (items_at k one.taken) (items_at k
              (one.taken ++ two.taken))
              refl out.0 (items_first k one.taken two.taken out.1) (one.inside k above within)
          | inr beyond ↦
              let far = one.outside k (inr beyond) in
              hears_none terms k (get old k) (get new k) (items_at k (one.taken ++ two.taken)) (out.0 ∙ far.0)
              (items_first k one.taken two.taken out.1 ∙ far.1)
        ]
  ];
  theirs = both_clients one.taken two.taken one.theirs two.theirs;
  enough = λ room k. elim (cases_lt k first) [
    | inl below ↦
        let out = one.outside k (inl below) in
        none_waits_with (get new k) (get new k) (items_at k two.taken) (items_at k (one.taken ++ two.taken)) refl
        (items_second k one.taken two.taken out.1) (two.enough room k (omega arith) below)
    | inr above ↦
        let out = two.outside k (inr above) in
        elim (cases_lt k places) [
          | inl within ↦
              none_waits_with (get mid k) (get new k) (items_at k one.taken) (items_at k (one.taken ++ two.taken)) out.0
              (items_first k one.taken two.taken out.1)
              (one.enough (room_before between two.taken after two.after_is room) k above within)
          | inr beyond ↦
              let far = one.outside k (inr beyond) in
              none_waits_with None (get new k) [] (items_at k (one.taken ++ two.taken)) (out.0 ∙ far.0 ∙ empty k beyond)
              (items_first k one.taken two.taken out.1 ∙ far.1) tt
        ]
  ];
}
