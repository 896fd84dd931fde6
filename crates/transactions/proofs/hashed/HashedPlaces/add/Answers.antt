use Rattle.std.proofs.Common.{◌∙◌, ◌&&◌, ℕ, List, Bool, not, nat_eq, sym, ap}
use Rattle.std.specs.Map.{lookup}
use Rattle.std.specs.Str.{bytes_eq}
use Rattle.indexmap.proofs.CallerLemmas.{insert_entry-new}
use Rattle.transactions.specs.Found.{hint_of, other_of, or_new}
use Rattle.transactions.proofs.Index.{or_old, lookup_pushed}
use Rattle.transactions.proofs.hashed.HashedPlaces.add.Goals as goal

pub returns-in_ok-insert-clause-ok : goal.returns-in_ok-insert-clause-ok
returns-in_ok-insert-clause-ok c =
    let old = c.args.self.now in
    let place = c.args.place in
    let key = c.in_ok-key.key in
    let items = c.in_ok-key.ensures.items in
    let taken = sym c.contains_key.ensures ∙ c.if-contains_key.true in
    let absent = ap (λ (bytes : List ℕ). lookup (λ other. bytes_eq bytes other.items) old.others.entries) items ∙ c.requires taken in
    let entries = c.in_ok-insert.ensures.entries ∙ insert_entry-new (λ a b. bytes_eq a.items b.items) old.others key place absent in
    record {
      hints = λ h. sym (or_old (hint_of old h) place)
          ∙ ap (λ (b : Bool). or_new (hint_of old h) (not b && nat_eq h c.args.hash) place) (sym taken);
      others = λ q. ap (lookup (λ other. bytes_eq q other.items)) entries
          ∙ lookup_pushed (λ other. bytes_eq q other.items) old.others.entries key place
          ∙ (λ k. or_new (other_of old q) (sym taken k && bytes_eq q (items k)) place);
    }
