-- The senders of an image that loads: each context's is nil or a context.
use Rattle.std.proofs.Common.{◌≡◌, ℕ, ◌%◌, ◌==◌, ◌||◌, Bool, true, false, List, Some, None, refl, ap, sym, subst, ◌∙◌}
use Rattle.std.specs.FinMap.{FinMap}
use Rattle.std.specs.Ordering.{nat_cmp}
use Rattle.cs_model.specs.Ref.{Ref}
use Rattle.cs_model.specs.Image.{head_in}
use Rattle.cs_model.specs.Obj.{Ctx, is_context_at}
use Rattle.cs_model.specs.State.{Kept, is_nil, object_of}
use Rattle.cs_model.specs.Words.{context_by, obj_by, ref_by}
use Rattle.cs_model.specs.ImageFile.{File, file_of, names, old_base, special_address, visible}
use Rattle.cs_model.specs.ImageFile as file
use Rattle.cs_model.specs.ImageFault as fault
use Rattle.cs_heap.specs.Object.{Object}
use Rattle.cs_classes.specs.Meaning.{kept_of}
use Rattle.cs_classes.specs.Senders.{SenderStands, SendersStand}
use Rattle.cs_classes.specs.declared.Roots.{Roots}
use Rattle.cs_image.specs.Loading.{loaded_from}
use Rattle.cs_image.proofs.Wording.{memory_of, meant}
use Rattle.cs_image.proofs.Soundness.{IsSoundFile, context_at, seven}
use Rattle.cs_image.proofs.Describing.{IsBuilt, built_roots}
use Rattle.cs_image.proofs.Wholeness.{ground_of}
use Rattle.cs_image.proofs.Opening.{HasFile, has_file, held, nil_held, slot}
use Rattle.cs_image.proofs.Wholeness.{context_seen, passes_some}
use Rattle.cs_image.proofs.Pcs.{context_of_words, from_file}

-- a word that names a context of the file names one of the state
context_held : (births : List ℕ) (f : File) (special : ℕ) (k : Kept) → HasFile births f special k → (word : ℕ) → names f fault.is_file_context word ≡ true → is_context_at (object_of k (ref_by (meant births f) word)) ≡ true
unfolding obj_by
context_held births f special k h word e =
    let r = passes_some fault.is_file_context (file.named f word) e in
    let x = r.0 in
    let s = held births f special k h word x r.1 (context_seen x r.2) in
    let is : obj_by (meant births f) (head_in x) x.words ≡ Ctx (context_by (meant births f) x.hash x.words) = rw r.2 refl in
    ap (λ (y : Ref). is_context_at (object_of k y)) s.names
    ∙ ap is_context_at (s.at ∙ ap Some is)

sender_held : (births : List ℕ) (f : File) (special : ℕ) (k : Kept) → HasFile births f special k → (word : ℕ) → (file.is_nil_word f word || names f fault.is_file_context word) ≡ true
    → (is_nil k (ref_by (meant births f) word) || is_context_at (object_of k (ref_by (meant births f) word))) ≡ true
sender_held births f special k h word e = go (file.is_nil_word f word) refl e
  where
    first : (a b : Bool) → a ≡ true → (a || b) ≡ true
    first a b p = ap (λ (c : Bool). c || b) p

    second : (a b : Bool) → b ≡ true → (a || b) ≡ true
    second true b p = refl
    second false b p = p

    go : (b : Bool) → file.is_nil_word f word ≡ b → (b || names f fault.is_file_context word) ≡ true
        → (is_nil k (ref_by (meant births f) word) || is_context_at (object_of k (ref_by (meant births f) word))) ≡ true
    go true nil e = first _ _ (nil_held births f special k h word nil)
    go false nil e = second _ _ (context_held births f special k h word e)

-- the sender of a context of the file
pub file_senders : (births : List ℕ) (f : File) (special : ℕ) (k : Kept) → HasFile births f special k → SendersStand k
file_senders births f special k h i c there =
    let a = from_file births f special k h i (Ctx c) there in
    let o = a.object in
    let s = context_of_words (meant births f) (head_in o) o.words c a.means in
    let parts = seven (o.format == 3) _ _ _ _ _ _ (context_at f special a.place o h.ground_of.sound a.there s.class_is) in
    subst (SenderStands k) s.is (sender_held births f special k h (slot o 0) parts.sender)

-- what was built for a file without faults
pub built_senders : (births : List ℕ) (bytes : List ℕ) (file : File) (objects : List Object) (table : FinMap nat_cmp ℕ) (roots : Roots) → file ≡ file_of bytes → IsBuilt births bytes file objects table roots
    → old_base bytes % 8 ≡ 0 → IsSoundFile (file_of bytes) (special_address bytes) → SendersStand (kept_of objects table roots None)
built_senders births bytes file objects table roots same b base_is s =
    let f : File = file_of bytes in
    let special = special_address bytes in
    let r = built_roots births bytes file objects table roots same b in
    let P : List Object → Type 0 = λ os. SendersStand (kept_of os table roots None) in
    subst P (sym (b.objects_are ∙ ap (λ (f : File). loaded_from f births 0 (visible f)) same))
    (file_senders births f special (kept_of (memory_of births f) table roots None) (has_file births f special table roots (ground_of bytes base_is s) r.special r.known))
