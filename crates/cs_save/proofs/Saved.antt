-- The image of what is saved is the state.
use Rattle.std.proofs.Common.{◌≡◌, ℕ, ◌≤◌, ◌==◌, ◌&&◌, true, not, List, map, Option, Some, None, ap, ◌∙◌, arith, option_map, subst}
use Rattle.std.specs.Prelude.{Ok, IfSome}
use Rattle.std.specs.List.{AllByRecursion}
use Rattle.std.specs.Ordering.{nat_cmp}
use Rattle.std.specs.FinMap.{FinMap}
use Rattle.std.proofs.lemmas.Bool.Decides.{nat_tests}
use Rattle.cs_heap.specs.Object.{Object, used}
use Rattle.cs_model.specs.State.{is_class_index}
use Rattle.cs_model.specs.Image.{described, image_of, state_unless}
use Rattle.cs_model.specs.ImageFault.{ImageFault}
use Rattle.cs_model.specs.SavedFile.{IsSeen}
use Rattle.cs_model.proofs.SavedDescribing.{state_there}
use Rattle.cs_classes.specs.declared.Roots.{Roots}
use Rattle.cs_classes.specs.Meaning.{kept_of}
use Rattle.cs_classes.specs.Sound.{IsWhole}
use Rattle.cs_save.specs.Filed.{filed, saved_file, saved_of}
use Rattle.cs_save.specs.Storable.{AreSingle, IsStorableImage}
use Rattle.cs_save.proofs.Meanings.{IsFiled}
use Rattle.cs_save.proofs.Storing.{all_by_get, all_mapped, filed_from, state_same}

seen_kind : (class : ℕ) → is_class_index class ≡ true → (not (class == 0) && not (class == 16)) ≡ true
seen_kind class h = grind (arith, nat_tests, h)

seen_filed : (x : Object) → is_class_index x.class ≡ true → IsSeen (filed x)
unfolding filed
seen_filed x h = seen_kind x.class h

pub all_seen : (xs : List Object) (table : FinMap nat_cmp ℕ) (roots : Roots) → IsWhole xs table roots → AllByRecursion IsSeen (map filed xs)
all_seen xs table roots w = all_mapped IsSeen filed xs (all_by_get (λ x. IsSeen (filed x)) xs (λ k x e. seen_filed x (w.heap.each k x e).kind))

pub described_same : (xs : List Object) (table : FinMap nat_cmp ℕ) (roots : Roots) → IsFiled xs table roots → IsWhole xs table roots → AreSingle xs
    → described (saved_of xs table roots) ≡ kept_of xs table roots None
described_same xs table roots f w single =
    state_there (saved_file xs table roots) f.fits (all_seen xs table roots w) ∙ state_same xs table roots f w single

pub filed_of : (xs : List Object) (table : FinMap nat_cmp ℕ) (roots : Roots) (limit : ℕ) → IsStorableImage xs table roots limit → used xs ≤ 67108864 → IsFiled xs table roots
filed_of xs table roots limit s few = filed_from xs table roots s.whole few s.header s.next s.words

pub image_same : (xs : List Object) (table : FinMap nat_cmp ℕ) (roots : Roots) (limit : ℕ) → IsStorableImage xs table roots limit → used xs ≤ 67108864
    → image_of (saved_of xs table roots) limit ≡ Ok (kept_of xs table roots None)
unfolding image_of
image_same xs table roots limit s few =
    ap (λ (fault : Option ImageFault). state_unless fault (described (saved_of xs table roots))) s.fault
    ∙ ap Ok (described_same xs table roots (filed_of xs table roots limit s few) s.whole s.single)

-- what a content is of which it is known what was taken
pub content_told : (content taken : Option (List ℕ)) (bytes : List ℕ) (P : List ℕ → Type 0) → P bytes → content ≡ option_map (λ (t : List ℕ). bytes) taken → IfSome content P
content_told None taken bytes P p e = tt
content_told (Some b) None bytes P p e = absurd (cc)
content_told (Some b) (Some t) bytes P p e = let same : bytes ≡ b = cc in subst P same p
