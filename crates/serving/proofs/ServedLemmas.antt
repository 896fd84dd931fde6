-- In each group who asked is who is told.
use Rattle.std.proofs.Common.{◌≡◌, ◌++◌, ◌∷◌, ◌&&◌, ◌==◌, [], List, ℕ, Option, Some, None, Vec, Bool, true, false, cond, slice_get}
use Rattle.std.proofs.Common.{IsSomeAnd, refl, sym, ap, ◌∙◌, subst, if◌then◌else◌, inl, inr}
use Rattle.std.proofs.lemmas.Bool.{and_parts, cases_Bool, eq-eqb}
use Rattle.std.proofs.lemmas.List.Elements.{filter-append}
use Rattle.std.specs.Borrow.{Bor}
use Rattle.std.specs.List.{flat_map, AllZip}
use Rattle.std.specs.Option.{option_map}
use Rattle.std.specs.declared.alloc.Global.{Global}
use Rattle.slab.specs.Slab.{get}
use Rattle.serving.specs.declared.terms.Terms.{Terms}
use Rattle.serving.specs.declared.group.Item.{Item}
use Rattle.serving.specs.declared.group.Origin.{Origin}
use Rattle.serving.specs.declared.group.Origin.TheVariants.{Client, Node}
use Rattle.protocol.specs.declared.answers.Answer.{Answer}
use Rattle.serving.specs.Clients.{ClientParts}
use Rattle.serving.specs.Groups.{Told, after_one, answer_text, answers_to, is_for, is_handed, is_nobody, is_said, texts_for, with_answers}
use Rattle.serving.specs.Served.{are_nobodys, served_at, served_of, told_text, IsServed, Served, WhoAskedIsTold}
use Rattle.serving.specs.Taking.{is_at, is_from, items_at, HearsAt, HearsClient, IsItemOf}

-- who is at no such key isn't told it
pub not_for : (key number : ℕ) (origin : Origin) → is_from key origin ≡ false → is_for key number origin ≡ false
not_for key number (Client its_key its_number) away = ap (λ (b : Bool). b && its_number == number) away
not_for key number Node away = refl

its_own : (key number : ℕ) (origin : Origin) → origin ≡ Client key number → is_for key number origin ≡ true
its_own key number origin is =
    ap (is_for key number) is ∙ ap (λ (b : Bool). b && number == number) (eq-eqb key key refl) ∙ eq-eqb number number refl

-- the first line's item is its own, and the others are those of the other lines
pub more_at : (terms : Terms) (key number : ℕ) (lines : List (List ℕ)) (item : Item) (rest : List Item)
    → AllZip (IsItemOf terms (Client key number)) lines (item ∷ rest)
    → (more : List (List ℕ)) × ((is_for key number item.origin ≡ true) × AllZip (IsItemOf terms (Client key number)) more rest)
more_at terms key number [] item rest each = absurd each
more_at terms key number (line ∷ lines) item rest each = (lines, (its_own key number item.origin each.0.origin_is, each.1))

-- the first of what is there, if it is there
pub first_at : (key : ℕ) (item : Item) (rest : List Item) → is_at key item ≡ true → items_at key (item ∷ rest) ≡ item ∷ items_at key rest
first_at key item rest here = ap (λ (b : Bool). cond b (item ∷ items_at key rest) (items_at key rest)) here

-- who isn't there is left out
pub none_at : (key : ℕ) (item : Item) (rest : List Item) → is_at key item ≡ false → items_at key (item ∷ rest) ≡ items_at key rest
none_at key item rest here = ap (λ (b : Bool). cond b (item ∷ items_at key rest) (items_at key rest)) here

-- what is for the client of a number at a key, where all items there are of it, are the answers to those
pub texts_at : (terms : Terms) (key number : ℕ) (items : List Item) (replies : List (Bor Answer)) (said : List (Vec ℕ Global)) (lines : List
    (List ℕ))
    → AllZip (IsItemOf terms (Client key number)) lines (items_at key items)
    → texts_for key number (answers_to items replies said) ≡ flat_map told_text (served_at key (served_of items replies said))
texts_at terms key number [] replies said lines each = refl
texts_at terms key number (item ∷ items) replies said lines each =
    let text : List ℕ = answer_text item.work (slice_get replies 0) (slice_get said 0) in
    let one : Served = record { item = item; reply = slice_get replies 0; said = slice_get said 0 } in
    let more_replies : List (Bor Answer) = after_one (is_handed item.work) replies in
    let more_said : List (Vec ℕ Global) = after_one (is_said item.work) said in
    let rest : List Served = served_at key (served_of items more_replies more_said) in
    let texts : List ℕ = texts_for key number (answers_to items more_replies more_said) in
    elim (cases_Bool (is_at key item)) [
      | inl here ↦
          let (lines_more, each_more) = more_at terms key number lines item (items_at key items)
          (subst (AllZip (IsItemOf terms (Client key number)) lines) (first_at key item items here) each) in
          ap (λ (b : Bool). (if b then text else []) ++ texts) each_more.0
          ∙ ap (λ (t : List ℕ). text ++ t) (texts_at terms key number items more_replies more_said lines_more each_more.1)
          ∙ sym (ap (λ (b : Bool). flat_map told_text (cond b (one ∷ rest) rest)) here)
      | inr away ↦
          ap (λ (b : Bool). (if b then text else []) ++ texts) (not_for key number item.origin away)
          ∙ texts_at terms key number items more_replies more_said lines
          (subst (AllZip (IsItemOf terms (Client key number)) lines) (none_at key item items away) each)
          ∙ sym (ap (λ (b : Bool). flat_map told_text (cond b (one ∷ rest) rest)) away)
    ]

zip_first : (terms : Terms) (key number : ℕ) (lines : List (List ℕ)) (one : Served) (rest : List Item) (more : List Served)
    → AllZip (IsItemOf terms (Client key number)) lines (one.item ∷ rest)
    → ((left : List (List ℕ)) → AllZip (IsItemOf terms (Client key number)) left rest
    → AllZip (λ line one. IsItemOf terms (Client key number) line one.item) left more)
    → AllZip (λ line one. IsItemOf terms (Client key number) line one.item) lines (one ∷ more)
zip_first terms key number [] one rest more each behind = absurd each
zip_first terms key number (line ∷ lines) one rest more each behind = (each.0, behind lines each.1)

-- the items there, as they were taken
zip_at : (terms : Terms) (key number : ℕ) (items : List Item) (replies : List (Bor Answer)) (said : List (Vec ℕ Global)) (lines : List
    (List ℕ))
    → AllZip (IsItemOf terms (Client key number)) lines (items_at key items)
    → AllZip (λ line one. IsItemOf terms (Client key number) line one.item) lines (served_at key (served_of items replies said))
zip_at terms key number [] replies said [] each = tt
zip_at terms key number [] replies said (line ∷ lines) each = absurd each
zip_at terms key number (item ∷ items) replies said lines each =
    let one : Served = record { item = item; reply = slice_get replies 0; said = slice_get said 0 } in
    let more_replies : List (Bor Answer) = after_one (is_handed item.work) replies in
    let more_said : List (Vec ℕ Global) = after_one (is_said item.work) said in
    let rest : List Served = served_at key (served_of items more_replies more_said) in
    let P : Bool → Type 0 = λ b. AllZip (λ line one. IsItemOf terms (Client key number) line one.item) lines (cond b (one ∷ rest) rest) in
    elim (cases_Bool (is_at key item)) [
      | inl here ↦
          subst P (sym here) (zip_first terms key number lines one (items_at key items) rest
          (subst (AllZip (IsItemOf terms (Client key number)) lines) (first_at key item items here) each)
          (λ left more. zip_at terms key number items more_replies more_said left more))
      | inr away ↦
          subst P (sym away) (zip_at terms key number items more_replies more_said lines
          (subst (AllZip (IsItemOf terms (Client key number)) lines) (none_at key item items away) each))
    ]

-- where no item is there, none is answered there
served_none : (key : ℕ) (items : List Item) (replies : List (Bor Answer)) (said : List (Vec ℕ Global)) → items_at key items ≡ []
    → served_at key (served_of items replies said) ≡ []
served_none key [] replies said none = refl
served_none key (item ∷ items) replies said none =
    let one : Served = record { item = item; reply = slice_get replies 0; said = slice_get said 0 } in
    let more_replies : List (Bor Answer) = after_one (is_handed item.work) replies in
    let more_said : List (Vec ℕ Global) = after_one (is_said item.work) said in
    let rest : List Served = served_at key (served_of items more_replies more_said) in
    elim (cases_Bool (is_at key item)) [
      | inl here ↦ let wrong : item ∷ items_at key items ≡ [] = sym (first_at key item items here) ∙ none in absurd (cc)
      | inr away ↦
          ap (λ (b : Bool). cond b (one ∷ rest) rest) away
          ∙ served_none key items more_replies more_said (sym (none_at key item items away) ∙ none)
    ]

nobody_there : (key : ℕ) (origin : Origin) → is_nobody origin ≡ true → is_from key origin ≡ false
nobody_there key Node nobody = refl
nobody_there key (Client its_key its_number) nobody = absurd (cc)

no_items : (key : ℕ) (ahead : List Item) → are_nobodys ahead ≡ true → items_at key ahead ≡ []
no_items key [] nobodys = refl
no_items key (item ∷ rest) nobodys =
    let both = and_parts (is_nobody item.origin) (are_nobodys rest) nobodys in
    none_at key item rest (nobody_there key item.origin both.0) ∙ no_items key rest both.1

-- of a group's items those for a client are among those that were taken of clients, where those ahead are for nobody
pub items_taken : (key : ℕ) (ahead items taken : List Item) → are_nobodys ahead ≡ true → items ≡ ahead ++ taken
    → items_at key items ≡ items_at key taken
items_taken key ahead items taken nobodys is =
    ap (items_at key) is ∙ filter-append (is_at key) ahead taken
    ∙ ap (λ (first : List Item). first ++ items_at key taken) (no_items key ahead nobodys)

served_client : (terms : Terms) (key : ℕ) (items taken : List Item) (replies : List (Bor Answer)) (said : List (Vec ℕ Global))
    (client : ClientParts) (seat seen : Option ClientParts) → items_at key items ≡ items_at key taken
    → IsSomeAnd seat (λ now. HearsClient terms key client now (items_at key taken))
    → seen ≡ option_map (with_answers key (answers_to items replies said)) seat
    → (now : ClientParts) × (seen ≡ Some now) × IsServed terms key client now (served_of items replies said)
served_client terms key items taken replies said client None seen items_are hears told = absurd hears
served_client terms key items taken replies said client (Some now) seen items_are hears told =
    let mid : ClientParts = hears.mid in
    let front = hears.lines.front in
    let answers : List Told = answers_to items replies said in
    let number : now.number ≡ mid.number = ap (λ (c : ClientParts). c.number) hears.lines.same in
    let output : now.output ≡ mid.output = ap (λ (c : ClientParts). c.output) hears.lines.same in
    let each : AllZip (IsItemOf terms (Client key mid.number)) front.lines (items_at key items) =
    subst (AllZip (IsItemOf terms (Client key mid.number)) front.lines) (sym items_are) front.each in (
      with_answers key answers now,
      told,
      record {
        mid = mid;
        proof = hears.proof;
        unproved = λ proving. served_none key items replies said (items_are ∙ (hears.unproved proving).1);
        idle = λ may_not. served_none key items replies said (items_are ∙ (hears.idle may_not).1);
        lines = front.lines;
        input = front.bytes_are;
        each = zip_at terms key mid.number items replies said front.lines each;
        output = ap (λ (o : List ℕ). o ++ texts_for key now.number answers) output
            ∙ ap (λ (n : ℕ). mid.output ++ texts_for key n answers) number
            ∙ ap (λ (t : List ℕ). mid.output ++ t) (texts_at terms key mid.number items replies said front.lines each);
      },
    )

pub who_asked_is_told : WhoAskedIsTold
who_asked_is_told terms old mid new ahead items replies said nobodys hears told key client was =
    served_client terms key items hears.taken replies said client (get mid key) (get new key)
    (items_taken key ahead items hears.taken nobodys hears.after_is)
    (subst (λ (seat : Option ClientParts). HearsAt terms key seat (get mid key) (items_at key hears.taken)) was (hears.each key)) (told key)
