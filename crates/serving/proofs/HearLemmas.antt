-- What becomes of a client whose lines are looked at.
use Rattle.std.proofs.Common.{◌≡◌, ◌⊎◌, ◌<◌, ◌==◌, ◌++◌, ◌∷◌, [], List, ℕ, Bool, true, false, length, ap, refl, sym, inl, inr, ◌∙◌, arith}
use Rattle.std.proofs.lemmas.Bool.{ne_eqb}
use Rattle.std.proofs.lemmas.List.{append-nil}
use Rattle.xid.specs.Text.{lacks}
use Rattle.serving.specs.declared.group.Item.{Item}
use Rattle.serving.specs.declared.taking.TheConstants.{MOST_ITEMS}
use Rattle.serving.specs.declared.terms.Terms.{Terms}
use Rattle.serving.specs.Clients.{ClientParts, is_proving, may_ask, WaitsForNone}
use Rattle.serving.specs.Taking.{HearsClient, NoneLeft, NoneWaits, TakesLines, TakesProof}

no_lines : (terms : Terms) (key : ℕ) (client : ClientParts) → TakesLines terms key client client []
no_lines terms key client = record {
  front = record {
    lines = [];
    bytes_are = refl;
    each = tt;
    last = record { front = []; last = []; whole = refl; free = refl; one = omega arith };
  };
  same = refl;
  kept = λ broken. broken;
  broken = λ broken. inl broken;
}

-- no LF stands in no bytes
pub empty_lacks : (bytes : List ℕ) → (length bytes == 0) ≡ true → lacks 10 bytes ≡ true
empty_lacks [] none = refl
empty_lacks (byte ∷ bytes) none =
    let wrong : false ≡ true = sym (ne_eqb (length (byte ∷ bytes)) 0 (λ e. omega arith)) ∙ none in absurd (cc (wrong))

-- one that is to be let go may not ask
pub broken_asks_not : (client : ClientParts) → client.is_broken ≡ true → may_ask client ≡ false
broken_asks_not client broken = ap (λ (b : Bool). may_ask (record client { is_broken = b })) broken

no_other : (client new : ClientParts) (taken : List Item) → may_ask client ≡ true → may_ask client ≡ false → (new ≡ client) × (taken ≡ [])
no_other client new taken may may_not = let wrong : true ≡ false = sym may ∙ may_not in absurd (cc)

-- a client of which no line is to be looked at: none waits, whatever was taken
none_waits : (client : ClientParts) (taken : List Item) → WaitsForNone client → NoneWaits client taken
none_waits client taken (inl may_not) = inl may_not
none_waits client taken (inr none) = inr (inl none)

-- a client whose proof is due still is broken, or no line stands there whole
pub proof_due : (client : ClientParts) → (client.is_broken ≡ true) ⊎ (lacks 10 client.input ≡ true) → WaitsForNone client
proof_due client (inl broken) = inl (broken_asks_not client broken)
proof_due client (inr none) = inr (inl none)

-- no line was taken, but its proof, if that was due
pub hears_proof : (terms : Terms) (key : ℕ) (old new : ClientParts) (items : List Item) → may_ask old ≡ true → TakesProof terms old new
    → WaitsForNone new
    → (taken : List Item) × (items ≡ items ++ taken) × HearsClient terms key old new taken
    × (length items < MOST_ITEMS → NoneWaits new taken)
hears_proof terms key old new items may proof none = (
  [],
  sym (append-nil items),
  record {
    mid = new;
    proof = proof;
    lines = no_lines terms key new;
    unproved = λ _. (refl, refl);
    idle = no_other old new [] may;
  },
  λ room. none_waits new [] none,
)

-- nothing came of it
pub heard_nothing : (terms : Terms) (key : ℕ) (client : ClientParts) → HearsClient terms key client client []
heard_nothing terms key client = record {
  mid = client;
  proof = inl refl;
  lines = no_lines terms key client;
  unproved = λ _. (refl, refl);
  idle = λ _. (refl, refl);
}

-- nothing of it was looked at
pub hears_nothing : (terms : Terms) (key : ℕ) (client : ClientParts) (items : List Item)
    → WaitsForNone client
    → (taken : List Item) × (items ≡ items ++ taken) × HearsClient terms key client client taken
    × (length items < MOST_ITEMS → NoneWaits client taken)
hears_nothing terms key client items none =
    ([], sym (append-nil items), heard_nothing terms key client, λ room. none_waits client [] none)

-- its lines were taken, behind its proof
pub hears_lines : (terms : Terms) (key : ℕ) (old mid new : ClientParts) (before after : List Item) → may_ask old ≡ true
    → TakesProof terms old mid → is_proving mid.stage ≡ false
    → (taken : List Item) × (after ≡ before ++ taken) × TakesLines terms key mid new taken
    × (length after < MOST_ITEMS → NoneLeft taken new.input)
    → (taken : List Item) × (after ≡ before ++ taken) × HearsClient terms key old new taken
    × (length after < MOST_ITEMS → NoneWaits new taken)
hears_lines terms key old mid new before after may proof proved (taken, after_is, lines, left) = (
  taken,
  after_is,
  record {
    mid = mid;
    proof = proof;
    lines = lines;
    unproved = λ proving. let wrong : true ≡ false = sym proving ∙ proved in absurd (cc);
    idle = λ may_not. let wrong : true ≡ false = sym may ∙ may_not in absurd (cc);
  },
  λ room. inr (left room),
)
