use Rattle.std.proofs.Common.{◌≡◌, ◌∙◌, List, ℕ, ◌++◌, take, sym, ap}
use Rattle.std.proofs.lemmas.List.{append_assoc, take-append-drop}
use Rattle.xid.specs.Text.{hex_text}
use Rattle.xid.proofs.Texts.{hex_append, extends_on}
use Rattle.xid.proofs.text.put_hex.Goals as goal

pub loop-rest-preserved : goal.loop-rest-preserved
loop-rest-preserved c =
    let out : List ℕ = c.loop-rest.out.items in
    let first : List ℕ = c.split_at.result.0.now in
    let after : List ℕ = c.split_at.result.1.now in
    let whole : first ++ after ≡ c.loop-rest.rest.now =
    ap (λ (l : List ℕ). l ++ after) c.split_at.ensures.front
    ∙ ap (λ (l : List ℕ). take 64 c.loop-rest.rest.now ++ l) c.split_at.ensures.back
    ∙ take-append-drop 64 c.loop-rest.rest.now in (
      ap (λ (l : List ℕ). l ++ hex_text after) c.in_ok-put_short_hex.ensures.ok ∙ append_assoc out (hex_text first) (hex_text after)
          ∙ ap (λ (l : List ℕ). out ++ l) (sym (hex_append first after)) ∙ ap (λ (l : List ℕ). out ++ hex_text l) whole
          ∙ c.loop-rest.invariant.0,
      extends_on c.args.out.now.items out c.put_short_hex.new.out.items c.loop-rest.invariant.1 c.put_short_hex.ensures.kept,
    )
