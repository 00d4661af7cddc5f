-- A loop over entries has read so far what the definition reads, up to the items that are left.
use Rattle.std.proofs.Common.{◌≡◌, ℕ, ◌+◌, ◌<◌, ◌≤◌, List, [], ◌++◌, length, drop, get_or, Some, Result, Ok, refl, sym, ap, ◌∙◌, add-one}
use Rattle.std.proofs.lemmas.List.{at_drop_more, at_drop_all}
use Rattle.serde_json.specs.View.{view, items_view}
use Rattle.serde_json.specs.declared.value.Value.{Value}
use Rattle.json_tree.specs.declared.path.Step.TheVariants.{Place}
use Rattle.json_tree.specs.declared.fault.Fault.{Fault}
use Rattle.json_tree.specs.Checked.{Checked, Gives, under, joined, with_last}
use Rattle.json_tree.proofs.CheckedLemmas.{joined-with_last, joined-nothing, joined-end}
use Rattle.manifest_v2s2.specs.Descriptor.{known_of}
use Rattle.manifest_v2s2.specs.Known.{AreFirstSizes}
use Rattle.manifest_v2s2.specs.declared.sizes.Sizes.{Sizes}
use Rattle.manifest_v2s2.specs.declared.descriptor.Descriptor.{Descriptor}
use Rattle.manifest_v2s2.specs.declared.sizes.Known.{Known}
use Rattle.oci_index.specs.Entries.{entry_of, entries_by}

-- the entries before place i are read, and the sizes are those of the descriptors before them
pub record IsReadSoFar (all : Result (List Descriptor) Fault) (sizes : Sizes) (i : ℕ) (vs : List Value) : Type 0 where
  pub known : List Known
  pub sizes_are : AreFirstSizes sizes known
  pub front : Checked (List Descriptor)
  pub gives : Gives all front
  pub whole : joined front (entries_by known i (items_view (drop i vs))) ≡ entries_by [] 0 (items_view vs)

pub read_nothing : (sizes : Sizes) (vs : List Value) (all : List Descriptor) → AreFirstSizes sizes [] → all ≡ [] → IsReadSoFar (Ok all) sizes 0 vs
read_nothing sizes vs all are e = record {
  known = [];
  sizes_are = are;
  front = Ok all;
  gives = refl;
  whole = rw e (joined-nothing (entries_by [] 0 (items_view vs)));
}

pub read_one : (sizes next_sizes : Sizes) (vs : List Value) (i : ℕ) (v : Value) (all next : Result (List Descriptor) Fault)
    → IsReadSoFar all sizes i vs → i < length vs → v ≡ get_or vs i v
    → ((known : List Known) → AreFirstSizes sizes known → AreFirstSizes next_sizes (known ++ known_of (Some (view v))))
    → ((known : List Known) (x : Checked (List Descriptor)) → AreFirstSizes sizes known → Gives all x → Gives next (with_last x (under (Place i) (entry_of known (Some (view v))))))
    → IsReadSoFar next next_sizes (i + 1) vs
read_one sizes next_sizes vs i v all next h lt e learned gives =
    let known = h.known in
    let more = known ++ known_of (Some (view v)) in
    let one = under (Place i) (entry_of known (Some (view v))) in record {
      known = more;
      sizes_are = learned known h.sizes_are;
      front = with_last h.front one;
      gives = gives known h.front h.sizes_are h.gives;
      whole =
          joined-with_last h.front one (entries_by more (i + 1) (items_view (drop (i + 1) vs)))
          ∙ ap (joined h.front) (sym (at_drop_more (λ ws. entries_by known i (items_view ws)) vs i v lt ∙ rw (← e, add-one) refl))
          ∙ h.whole;
    }

pub read_all : (sizes : Sizes) (vs : List Value) (i : ℕ) (all : Result (List Descriptor) Fault)
    → IsReadSoFar all sizes i vs → length vs ≤ i → Gives all (entries_by [] 0 (items_view vs))
read_all sizes vs i all h le =
    let e = sym (joined-end h.front) ∙ ap (joined h.front) (sym (at_drop_all (λ ws. entries_by h.known i (items_view ws)) vs i le)) ∙ h.whole in
    rw (← e) h.gives
