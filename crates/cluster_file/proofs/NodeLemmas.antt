-- Keys, rows and nodes, read one after another.
use Rattle.std.proofs.Common.{◌≡◌, ◌∙◌, ◌+◌, ◌<◌, ◌≤◌, ◌||◌, Bor, Option, drop, get_or, ℕ, List, [], ◌∷◌, ◌++◌, map, length, Bool, true}
use Rattle.std.proofs.Common.{false, Some, None, Ok, Err, Result, refl, sym, ap, subst, arith}
use Rattle.std.proofs.Common.{append_assoc, append-nil, length-append}
use Rattle.std.specs.Prelude.{bytes_eq}
use Rattle.std.specs.List.{list_any}
use Rattle.std.proofs.lemmas.List.{drop_all}
use Rattle.protocol.specs.declared.rows.Row.{Row}
use Rattle.toml.specs.Data.{Data, Items, no_items, item, Members, no_members, member, get_member, table, as_table}
use Rattle.toml.specs.View.{items_view, view}
use Rattle.toml.proofs.Views.{items_view-drop}
use Rattle.toml.specs.declared.value.Value.{Value}
use Rattle.cluster_file.specs.declared.cluster.Place.{Place}
use Rattle.cluster_file.specs.declared.error.ClusterError.{ClusterError}
use Rattle.cluster_file.specs.declared.error.Kind.{Kind}
use Rattle.cluster_file.specs.declared.error.Fault.{Fault}
use Rattle.cluster_file.specs.declared.error.Fault.TheVariants.{Unknown, NoTable}
use Rattle.cluster_file.specs.Kinds.{kind_name}
use Rattle.cluster_file.specs.Mistakes.{Mistake, ◌>>=◌, mistake_at, reads_at, Says, IsRefused}
use Rattle.cluster_file.specs.Nodes.{Node, ReadNodes, item_count, keys_at, listed_at, node_in, node_of, node_path, nodes_at, nodes_from}
use Rattle.cluster_file.specs.Nodes.{section_path, size_fault, sized, unless}
use Rattle.cluster_file.specs.Reads.{list_of}
use Rattle.cluster_file.specs.Rows.{row_of, rows_from}
use Rattle.cluster_file.proofs.Refusals.{ok_after, refused_at, refused_bind, refused_more}

-- ---- keys

-- a key that is known is passed over
pub keys_known : (path : List ℕ) (known : List (List ℕ)) (key : List ℕ) (value : Data) (more : Members)
    → list_any (λ other. bytes_eq other key) known ≡ true → keys_at path known (member key value more) ≡ keys_at path known more
unfolding keys_at
keys_known path known key value more is = rw is refl

-- the first that isn't is wrong
pub keys_unknown : (path : List ℕ) (known : List (List ℕ)) (key : List ℕ) (value : Data) (more : Members)
    → list_any (λ other. bytes_eq other key) known ≡ false → keys_at path known (member key value more) ≡ Err (mistake_at path key Unknown)
unfolding keys_at
keys_unknown path known key value more is = rw is refl

pub keys_none : (path : List ℕ) (known : List (List ℕ)) → keys_at path known no_members ≡ Ok tt
unfolding keys_at
keys_none path known = refl

-- the same keys, borrowed
borrowed : (text : List ℕ) (known : List (Bor (List ℕ)))
    → list_any (λ other. bytes_eq other text) (map (λ key. key.now) known) ≡ list_any (λ other. bytes_eq other.now text) known
borrowed text [] = refl
borrowed text (key ∷ known) = ap (λ b. bytes_eq key.now text || b) (borrowed text known)

-- whether a key is among those known, by its text
pub key_known : (known : List (Bor (List ℕ))) (key text : List ℕ) (b : Bool) → text ≡ key
    → b ≡ list_any (λ other. bytes_eq other.now text) known → list_any (λ other. bytes_eq other key) (map (λ k. k.now) known) ≡ b
key_known known key text b same is =
    let any : List ℕ → Bool = λ t. list_any (λ other. bytes_eq other t) (map (λ (k : Bor (List ℕ)). k.now) known) in
    ap any (sym same) ∙ (borrowed text known ∙ sym is)

-- ---- one more

-- what stands before takes one more
more_after : {A : Type 0} (rest : Result (List A) Mistake) (x : A) (before : List A)
    → (rest >>= λ xs. Ok (x ∷ xs)) >>= (λ more. Ok (before ++ more)) ≡ rest >>= (λ more. Ok ((before ++ x ∷ []) ++ more))
more_after (Ok xs) x before = ap (λ ys. Ok ys) (sym (append_assoc before (x ∷ []) xs))
more_after (Err mistake) x before = refl

-- ---- rows

pub rows_more : (path key : List ℕ) (value : Data) (rest : Members) (row : Row) (before : List Row) → row_of key value ≡ Ok row
    → rows_from path (member key value rest) >>= (λ more. Ok (before ++ more))
    ≡ rows_from path rest >>= (λ more. Ok ((before ++ row ∷ []) ++ more))
unfolding rows_from
rows_more path key value rest row before is = rw is (more_after (rows_from path rest) row before)

pub rows_refused : (path key : List ℕ) (value : Data) (rest : Members) (before : List Row) (error : ClusterError)
    → IsRefused (reads_at path key (row_of key value)) error
    → IsRefused (rows_from path (member key value rest) >>= (λ more. Ok (before ++ more))) error
unfolding rows_from
rows_refused path key value rest before error h =
    refused_bind (λ more. Ok (before ++ more)) (refused_bind (λ row. rows_from path rest >>= (λ rows. Ok (row ∷ rows))) h)

pub rows_end : (path : List ℕ) (before : List Row) → rows_from path no_members >>= (λ more. Ok (before ++ more)) ≡ Ok before
unfolding rows_from
rows_end path before = ap (λ ys. Ok ys) (append-nil before)

-- ---- nodes

pub no_node : (kind : Kind) (nodes clients : Bool) (index : ℕ) (value : Data) → None ≡ as_table value
    → node_of kind nodes clients index value ≡ Err (record { at = Some (node_path kind index); fault = NoTable })
unfolding node_of
no_node kind nodes clients index (table inner) none = absurd (cc)
no_node kind nodes clients index value none = refl

pub nodes_more : (kind : Kind) (nodes clients : Bool) (index : ℕ) (value : Data) (rest : Items) (node : Node) (before : List Node)
    → node_of kind nodes clients index value ≡ Ok node
    → nodes_from kind nodes clients index (item value rest) >>= (λ more. Ok (before ++ more))
    ≡ nodes_from kind nodes clients (index + 1) rest >>= (λ more. Ok ((before ++ node ∷ []) ++ more))
unfolding nodes_from
nodes_more kind nodes clients index value rest node before is =
    rw is (more_after (nodes_from kind nodes clients (index + 1) rest) node before)

pub nodes_refused : (kind : Kind) (nodes clients : Bool) (index : ℕ) (value : Data) (rest : Items) (before : List Node)
    (error : ClusterError) → IsRefused (node_of kind nodes clients index value) error
    → IsRefused (nodes_from kind nodes clients index (item value rest) >>= (λ more. Ok (before ++ more))) error
unfolding nodes_from
nodes_refused kind nodes clients index value rest before error h =
    refused_bind (λ more. Ok (before ++ more))
    (refused_bind (λ node. nodes_from kind nodes clients (index + 1) rest >>= (λ more. Ok (node ∷ more))) h)

pub nodes_end : (kind : Kind) (nodes clients : Bool) (index : ℕ) (before : List Node)
    → nodes_from kind nodes clients index no_items >>= (λ more. Ok (before ++ more)) ≡ Ok before
unfolding nodes_from
nodes_end kind nodes clients index before = ap (λ ys. Ok ys) (append-nil before)

-- as many items as values
pub item_count-view : (values : List Value) → item_count (items_view values) ≡ length values
item_count-view [] = refl
item_count-view (value ∷ values) = omega (arith, item_count-view values)

-- one value, and those after it
pub values_at : (values : List Value) (i : ℕ) (value : Value) → i < length values → value ≡ get_or values i value
    → items_view (drop i values) ≡ item (view value) (items_view (drop (i + 1) values))
values_at values i value below is =
    items_view-drop values i value below ∙ ap (λ (v : Value). item (view v) (items_view (drop (i + 1) values))) (sym is)

-- no value is left
pub values_end : (values : List Value) (i : ℕ) → length values ≤ i → items_view (drop i values) ≡ no_items
values_end values i past = ap items_view (drop_all i values past)

-- ---- lists of values

module _ (path : List ℕ) (kind : Kind) (members : Members) where
  -- what is no list
  pub unlisted : (error : ClusterError) → IsRefused (reads_at path (kind_name kind) (list_of (get_member (kind_name kind) members))) error
      → IsRefused (listed_at path kind members) error
  unfolding listed_at
  unlisted error h = refused_more path (kind_name kind) (list_of (get_member (kind_name kind) members)) (sized kind) error h

  module _ (values : List Value) (is : list_of (get_member (kind_name kind) members) ≡ Ok (items_view values)) where
    sized_by : (found : Option Fault) → size_fault kind (length values) ≡ found
        → list_of (get_member (kind_name kind) members) >>= sized kind ≡ unless (items_view values) found
    sized_by found e =
        ap (λ r. r >>= sized kind) is
        ∙ (ap (λ n. unless (items_view values) (size_fault kind n)) (item_count-view values) ∙ ap (unless (items_view values)) e)

    pub listed_few : size_fault kind (length values) ≡ None → listed_at path kind members ≡ Ok (items_view values)
    unfolding listed_at
    listed_few few = ap (reads_at path (kind_name kind)) (sized_by None few)

    pub listed_many : (fault : Fault) (error : ClusterError) → size_fault kind (length values) ≡ Some fault
        → Says (mistake_at path (kind_name kind) fault) error → IsRefused (listed_at path kind members) error
    unfolding listed_at
    listed_many fault error many says =
        refused_at path (kind_name kind) (list_of (get_member (kind_name kind) members) >>= sized kind) fault error
        (sized_by (Some fault) many) says

-- what was read of some nodes, and what is left to read: the nodes so far stand behind those that were there
pub record ReadSoFar (said rest : Result (List Node) Mistake) (places more_places : List Place) (rows more_rows : List (List Row))
    (count : ℕ) : Type 0 where
  pub nodes : List Node
  pub step : said ≡ rest >>= (λ more. Ok (nodes ++ more))
  pub found : more_places ≡ places ++ map (λ node. node.0) nodes
  pub tables : more_rows ≡ rows ++ map (λ node. node.1) nodes
  pub many : count ≡ length nodes

map-push : {A B : Type 0} (f : A → B) (xs : List A) (x : A) → map f (xs ++ x ∷ []) ≡ map f xs ++ f x ∷ []
map-push f [] x = refl
map-push f (y ∷ ys) x = ap (λ l. f y ∷ l) (map-push f ys x)

-- one more at the end of a list that grows with another
grown : {A B : Type 0} (f : A → B) (xs ys zs : List B) (before : List A) (x : A) → ys ≡ xs ++ map f before → zs ≡ ys ++ f x ∷ []
    → zs ≡ xs ++ map f (before ++ x ∷ [])
grown f xs ys zs before x so_far more =
    more ∙ (ap (λ l. l ++ f x ∷ []) so_far ∙ (append_assoc xs (map f before) (f x ∷ []) ∙ ap (λ l. xs ++ l) (sym (map-push f before x))))

-- one more
pub one_more_read : (kind : Kind) (nodes clients : Bool) (index : ℕ) (value : Data) (rest : Items) (said : Result (List Node) Mistake)
    (places so_far more : List Place) (rows rows_so_far more_rows : List (List Row)) (place : Place) (own : List Row)
    → ReadSoFar said (nodes_from kind nodes clients index (item value rest)) places so_far rows rows_so_far index
    → node_of kind nodes clients index value ≡ Ok (place, own) → more ≡ so_far ++ place ∷ [] → more_rows ≡ rows_so_far ++ own ∷ []
    → ReadSoFar said (nodes_from kind nodes clients (index + 1) rest) places more rows more_rows (index + 1)
one_more_read kind nodes clients index value rest said places so_far more rows rows_so_far more_rows place own before is one_place
    one_table =
    record {
      nodes = before.nodes ++ (place, own) ∷ [];
      step = before.step ∙ nodes_more kind nodes clients index value rest (place, own) before.nodes is;
      found = grown (λ (node : Node). node.0) places so_far more before.nodes (place, own) before.found one_place;
      tables = grown (λ (node : Node). node.1) rows rows_so_far more_rows before.nodes (place, own) before.tables one_table;
      many = omega (arith, before.many, length-append before.nodes ((place, own) ∷ []));
    }

-- the node of a number is wrong
pub one_refused : (kind : Kind) (nodes clients : Bool) (index : ℕ) (value : Data) (rest : Items) (said : Result (List Node) Mistake)
    (places so_far : List Place) (rows rows_so_far : List (List Row)) (count : ℕ) (error : ClusterError)
    → ReadSoFar said (nodes_from kind nodes clients index (item value rest)) places so_far rows rows_so_far count
    → IsRefused (node_of kind nodes clients index value) error → IsRefused said error
one_refused kind nodes clients index value rest said places so_far rows rows_so_far count error before h =
    let P : Result (List Node) Mistake → Type 0 = λ r. IsRefused r error in
    subst P (sym before.step) (nodes_refused kind nodes clients index value rest before.nodes error h)

-- all were read, where no value is left
pub all_read : (kind : Kind) (nodes clients : Bool) (index : ℕ) (said : Result (List Node) Mistake) (places more : List Place)
    (rows more_rows : List (List Row)) (count : ℕ)
    → ReadSoFar said (nodes_from kind nodes clients index no_items) places more rows more_rows count
    → ReadNodes said places more rows more_rows count
all_read kind nodes clients index said places more rows more_rows count before = record {
  nodes = before.nodes;
  are = before.step ∙ nodes_end kind nodes clients index before.nodes;
  found = before.found;
  tables = before.tables;
  many = before.many;
}

module _ (path : List ℕ) (kind : Kind) (nodes clients : Bool) (members : Members) where
  -- values that may not be listed
  pub nodes_unlisted : (error : ClusterError) → IsRefused (listed_at path kind members) error
      → IsRefused (nodes_at path kind nodes clients members) error
  unfolding nodes_at
  nodes_unlisted error h = refused_bind _ h

  -- the nodes of the values that are listed
  pub nodes_listed : (items : Items) → listed_at path kind members ≡ Ok items
      → nodes_at path kind nodes clients members ≡ nodes_from kind nodes clients 0 items
  unfolding nodes_at
  nodes_listed items is = ok_after _ is refl

-- the node of a table
pub node_of_table : (kind : Kind) (nodes clients : Bool) (index : ℕ) (value : Data) (members : Members) (path : List ℕ)
    → value ≡ table members → path ≡ section_path kind index
    → node_of kind nodes clients index value ≡ node_in path kind nodes clients members
unfolding node_of
node_of_table kind nodes clients index value members path is at =
    ap (node_of kind nodes clients index) is ∙ ap (λ p. node_in p kind nodes clients members) (sym at)
