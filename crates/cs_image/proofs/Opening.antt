-- An image that loads can be opened: where a process is active, the opened state is running.
use Rattle.std.proofs.Common.{◌≡◌, ◌≢◌, ℕ, ◌+◌, ◌*◌, ◌%◌, ◌<◌, ◌≤◌, ◌==◌, ◌&&◌, ◌||◌, leb, Bool, true, false, cond, not, List, [], ◌∷◌, length, map, drop, get_or, Option, Some, None, IsSome, refl, ap, sym, subst, ◌∙◌, arith, slice_get, slice_index, option_map, option_and_then, is_some, unwrap_or, nat_cmp, length-drop}
use Rattle.std.specs.Option.{option_map_or}
use Rattle.std.specs.List.{slice_set}
use Rattle.std.specs.Cmp.{nat_cmp_total}
use Rattle.std.specs.FinMap.{FinMap, get, get-insert, insert}
use Rattle.std.proofs.lemmas.Bool.Decides.{nat_tests}
use Rattle.std.proofs.lemmas.List.{length-map, length-take-le}
use Rattle.std.proofs.lemmas.Option.{slice_get-get_or, slice_get-map}
use Rattle.cs_model.specs.Ref.{Ref, named_object}
use Rattle.cs_model.specs.Ref as ref
use Rattle.cs_model.specs.Obj.{Obj, Head, Context, Ptr, Method, Ctx, context_class, literal_count, slots_in, context_in, lies_in, lies_between, first_pc, at_least}
use Rattle.cs_model.specs.State.{Kept, put, object_at, object_of, slots_of, special_at, scheduler_of, active_process, is_nil}
use Rattle.cs_model.specs.Read.{IsRunning, active_context, method_of, pc_of, blank_context}
use Rattle.cs_model.specs.Operation.{activate, edit_found, nil_of, resume_of, store_of, with_slot}
use Rattle.cs_model.specs.Settle.{context_kept, open_at, open_if, open_kept}
use Rattle.cs_model.specs.Due.{is_idle, is_idle_at}
use Rattle.cs_model.specs.Words.{obj_by, context_by, ref_by, natural_in_word, is_pointer_format, is_method_format, plain, header_in_words, literals_in_words, bytecode_count, bytecodes_in_words, bytes_of_words}
use Rattle.cs_model.specs.ImageFile.{FileObject, File, file_of, old_base, special_address, is_visible, visible, nil_in, named, names, address_in}
use Rattle.cs_model.specs.ImageFile as file
use Rattle.cs_model.specs.ImageFault.{is_lost, is_process_word, is_live_context, is_pc_of, is_bad_roots, active_process_in, special_in, fields_of, fields_in}
use Rattle.cs_model.specs.ImageFault as fault
use Rattle.cs_model.specs.Image.{birth_in, head_in}
use Rattle.cs_heap.specs.Object.{Object}
use Rattle.cs_heap.specs.Object as heap
use Rattle.cs_heap.proofs.Laws.{object_at-address}
use Rattle.cs_classes.specs.Meaning.{kept_of, obj_of, objects_of, ref_of}
use Rattle.cs_classes.specs.Sound.{AreSoundObjects}
use Rattle.cs_classes.specs.declared.Roots.{Roots}
use Rattle.cs_classes.proofs.Objects.{get-objects_of}
use Rattle.cs_classes.proofs.Tables.{ties_other}
use Rattle.cs_image.specs.Loading.{address_named, loaded, loaded_from}
use Rattle.cs_image.proofs.Finding.{find-number}
use Rattle.cs_image.proofs.Naming.{birth_is_place, birth_of-named, birth_in-stands, stands_named, stands_there, slice_get-loaded_from}
use Rattle.cs_image.proofs.Numbering.{AreBirths}
use Rattle.cs_image.proofs.Wording.{memory_of, meant, natural_even}
use Rattle.cs_image.proofs.Elements.{object_same}
use Rattle.cs_image.proofs.Soundness.{IsSoundFile, and_true, not_true, not_false, context_at, fine_at, seven, special_stands, visible_three}
use Rattle.cs_image.proofs.Describing.{IsBuilt, built_roots}
use Rattle.cs_image.proofs.Wholeness.{and_then_some, map_some, passes_some, is_some_some, visible_named, named_aligned, context_seen, seen, Ground, ground_of, memory_sound, nil_aligned, nil_number, nil_stands}

-- ---- the state alone

-- the active process keeps a live context, whose pc lies in its method
pub record CanOpen (k : Kept) : Type 0 where
  pub p : ℕ
  pub head : Head
  pub slots : List Ref
  pub i : ℕ
  pub context : Context
  pub pc : ℕ
  pub m : ℕ
  pub method : Obj
  pub active : active_process k ≡ Some (ref.Obj p)
  pub process : object_at k p ≡ Some (Ptr head slots)
  pub keeps : context_kept k (ref.Obj p) ≡ Some (ref.Obj i)
  pub found : object_at k i ≡ Some (Ctx context)
  pub live : context.pc ≡ Some pc
  pub calls : context.method ≡ ref.Obj m
  pub code : object_at k m ≡ Some method
  pub lies : lies_in (Some method) pc ≡ true

-- an object beside the one that is stored into stays
beside : (k : Kept) (p q : ℕ) (o x y : Obj) → object_at k p ≡ Some x → object_at k q ≡ Some y → x ≢ y → get (insert k.objects p o) q ≡ Some y
beside k p q o x y there here apart = get-insert nat_cmp_total k.objects p o q
    ∙ ap (λ b. cond b (Some o) (get k.objects q)) (ties_other q p (λ (same : q ≡ p). apart (some_same x y (sym there ∙ ap (object_at k) (sym same) ∙ here))))
    ∙ here
  where
    some_same : (a b : Obj) → Some a ≡ Some b → a ≡ b
    some_same a b e = cc

-- the active process, in which nil takes the place of the context
unfoldable pub stored : (k : Kept) → CanOpen k → Obj
stored k r = Ptr r.head (slice_set r.slots 1 (nil_of k))

pub stored_is : (k : Kept) (r : CanOpen k) → store_of k (ref.Obj r.p) 1 (nil_of k) ≡ put k r.p (stored k r)
unfolding store_of stored
stored_is k r = ap (λ (o : Option Obj). edit_found (with_slot 1 (nil_of k)) r.p o k) r.process

pub opened_is : (k : Kept) (r : CanOpen k) → is_nil k (ref.Obj r.p) ≡ false → open_kept k ≡ resume_of (store_of k (ref.Obj r.p) 1 (nil_of k)) r.i
unfolding open_kept
opened_is k r filled = ap (open_if k) r.active
    ∙ ap (λ b. cond b k (open_at k (ref.Obj r.p) (option_and_then (λ x. named_object x) (context_kept k (ref.Obj r.p))))) filled
    ∙ ap (λ (o : Option Ref). open_at k (ref.Obj r.p) (option_and_then (λ x. named_object x) o)) r.keeps

pub opens : (k : Kept) (r : CanOpen k) → is_nil k (ref.Obj r.p) ≡ false → IsRunning (open_kept k)
unfolding resume_of put active_context method_of
opens k r filled = subst IsRunning (sym is) (record {
  known = refl;
  found = found ∙ ap (λ (c : Context). Some (Ctx c)) (sym context);
  live = live ∙ sym (ap (λ (o : Option ℕ). Some (unwrap_or o 0)) live);
  method = ap (λ (x : Ref). lies_in (object_of after x) (pc_of after)) method
      ∙ ap (λ (o : Option Obj). lies_in o (pc_of after)) code
      ∙ ap (λ (n : ℕ). lies_in (Some r.method) n) (ap (λ (o : Option ℕ). unwrap_or o 0) live)
      ∙ r.lies;
})
  where
    after : Kept
    after = record { objects = insert k.objects r.p (stored k r); rest = activate (Some r.i) k.rest }

    is : open_kept k ≡ after
    is = opened_is k r filled ∙ ap (λ (t : Kept). resume_of t r.i) (stored_is k r)

    found : get (insert k.objects r.p (stored k r)) r.i ≡ Some (Ctx r.context)
    found = beside k r.p r.i (stored k r) (Ptr r.head r.slots) (Ctx r.context) r.process r.found (λ e. absurd (cc))

    context : active_context after ≡ r.context
    context = ap (λ (o : Option Obj). unwrap_or (context_in o) blank_context) found

    live : (active_context after).pc ≡ Some r.pc
    live = ap (λ (c : Context). c.pc) context ∙ r.live

    method : (active_context after).method ≡ ref.Obj r.m
    method = ap (λ (c : Context). c.method) context ∙ r.calls

    code : get (insert k.objects r.p (stored k r)) r.m ≡ Some r.method
    code = beside k r.p r.m (stored k r) (Ptr r.head r.slots) r.method r.process r.code
        (λ e. let wrong : false ≡ true = ap (λ (o : Obj). lies_in (Some o) r.pc) e ∙ r.lies in absurd (cc))

-- ---- what a word names is in the state

-- the birth of what a word names
abbrev pub birth : List ℕ → File → ℕ → ℕ
birth births f word = birth_in f births word

pub equal : (a b : ℕ) → (a == b) ≡ true → a ≡ b
equal a b h = grind (arith, nat_tests, h)

same_test : (a b : ℕ) → a ≡ b → (a == b) ≡ true
same_test a b e = grind (arith, nat_tests, e)

ref_aligned : (births : List ℕ) (f : File) (word : ℕ) → word % 4 ≡ 0 → ref_by (meant births f) word ≡ meant births f word
ref_aligned births f word z = let a = odd word z in let b = two word z in rw (a, b) refl
  where
    odd : (n : ℕ) → n % 4 ≡ 0 → (n % 2 == 1) ≡ false
    odd n z = let e : n % 2 ≡ 0 = omega (arith, z) in ap (λ (m : ℕ). m == 1) e

    two : (n : ℕ) → n % 4 ≡ 0 → (n % 4 == 2) ≡ false
    two n z = ap (λ (m : ℕ). m == 2) z

-- a state with the objects of a file
pub record HasFile (births : List ℕ) (f : File) (root : ℕ) (k : Kept) : Type 0 where
  pub ground_of : Ground f root
  pub sound : AreSoundObjects (memory_of births f)
  pub objects : k.objects ≡ objects_of (memory_of births f)
  pub special : k.rest.special ≡ birth births f root
  pub nil : k.rest.nil ≡ slice_index births 0

pub record Held (births : List ℕ) (f : File) (k : Kept) (word : ℕ) (x : FileObject) : Type 0 where
  pub j : ℕ
  pub there : slice_get (visible f) j ≡ Some x
  pub at : object_at k (birth births f word) ≡ Some (obj_by (meant births f) (head_in x) x.words)
  pub names : ref_by (meant births f) word ≡ meant births f word

pub held : (births : List ℕ) (f : File) (special : ℕ) (k : Kept) → HasFile births f special k → (word : ℕ) (x : FileObject) → named f word ≡ Some x → is_visible x ≡ true → Held births f k word x
held births f special k h word x e v =
    let s = stands_named births f word x e v in
    let there : slice_get (visible f) s.j ≡ Some x = sym (ap (option_and_then (slice_get (visible f))) s.number)
    ∙ sym (find-number (λ o. address_in f o == word) (visible f)) ∙ visible_named f word x e v in
    let here : heap.heap_object (memory_of births f) (address_named f word) ≡ Some (loaded f (slice_index births (0 + s.j)) x) =
    object_at-address (memory_of births f) (address_named f word) s.j s.at ∙ slice_get-loaded_from births f 0 (visible f) s.j
    ∙ ap (option_map (λ o. loaded f (slice_index births (0 + s.j)) o)) there in
    record {
      j = s.j;
      there = there;
      at = ap (λ (m : FinMap nat_cmp Obj). get m (birth births f word)) h.objects
          ∙ ap (λ (n : ℕ). get (objects_of (memory_of births f)) n) (sym (birth_of-named births f word s))
          ∙ get-objects_of (memory_of births f) (address_named f word) h.sound (stands_there births f word s)
          ∙ ap (option_map (obj_of (ref_of (memory_of births f)))) here
          ∙ ap Some (object_same births f (slice_index births (0 + s.j)) x (fine_at f special s.j x h.ground_of.sound there));
      names = ref_aligned births f word (named_aligned f word x h.ground_of.aligned e);
    }

pub nil_held : (births : List ℕ) (f : File) (special : ℕ) (k : Kept) → HasFile births f special k → (word : ℕ) → file.is_nil_word f word ≡ true → is_nil k (ref_by (meant births f) word) ≡ true
nil_held births f special k h word e =
    let is : word ≡ nil_in f = equal word (nil_in f) e in
    let first = h.ground_of.first in
    ap (λ (n : ℕ). is_nil k (ref_by (meant births f) n)) is
    ∙ ap (is_nil k) (ref_aligned births f (nil_in f) (nil_aligned f h.ground_of.aligned first))
    ∙ same_test _ _ (birth_in-stands births f (nil_in f) (nil_stands births f first) ∙ ap (slice_index births) (nil_number births f first) ∙ sym h.nil)

-- ---- fields

record Fields (births : List ℕ) (f : File) (k : Kept) (n word : ℕ) (ws : List ℕ) : Type 0 where
  head : Head
  names : ref_by (meant births f) word ≡ meant births f word
  at : object_at k (birth births f word) ≡ Some (Ptr head (map (ref_by (meant births f)) ws))
  long : n ≤ length ws

less : (a b : ℕ) → leb a b ≡ true → a ≤ b
less a b h = grind (arith, nat_tests, h)

leb_true : (a b : ℕ) → a ≤ b → leb a b ≡ true
leb_true a b h = grind (arith, nat_tests, h)

fields_held : (births : List ℕ) (f : File) (special : ℕ) (k : Kept) → HasFile births f special k → (n word : ℕ) (x : FileObject) (ws : List ℕ) → named f word ≡ Some x → fields_of n x ≡ Some ws → Fields births f k n word ws
unfolding obj_by
fields_held births f special k h n word x ws e fields = go (is_visible x && is_pointer_format x.format && not (fault.is_file_context x) && leb n (length x.words)) refl fields
  where
    go : (b : Bool) → (is_visible x && is_pointer_format x.format && not (fault.is_file_context x) && leb n (length x.words)) ≡ b → cond b (Some x.words) None ≡ Some ws → Fields births f k n word ws
    go false all fields = absurd (cc)
    go true all fields =
        let a = and_true (is_visible x && is_pointer_format x.format && not (fault.is_file_context x)) (leb n (length x.words)) all in
        let b = and_true (is_visible x && is_pointer_format x.format) (not (fault.is_file_context x)) a.0 in
        let c = and_true (is_visible x) (is_pointer_format x.format) b.0 in
        let no_context : (x.class == context_class) ≡ false = not_true (x.class == context_class) b.1 in
        let same : x.words ≡ ws = cc in
        let s = held births f special k h word x e c.0 in
        let is : obj_by (meant births f) (head_in x) x.words ≡ Ptr (plain (head_in x)) (map (ref_by (meant births f)) x.words) = rw (no_context, c.1) refl in
        record {
          head = plain (head_in x);
          names = s.names;
          at = s.at ∙ ap Some is ∙ ap (λ (xs : List ℕ). Some (Ptr (plain (head_in x)) (map (ref_by (meant births f)) xs))) same;
          long = let l = less n (length x.words) a.1 in let m = ap length same in omega (arith, l, m);
        }

fields_named : (births : List ℕ) (f : File) (special : ℕ) (k : Kept) → HasFile births f special k → (n word : ℕ) (ws : List ℕ) → fields_in f n word ≡ Some ws → Fields births f k n word ws
fields_named births f special k h n word ws e =
    let r = and_then_some (fields_of n) (named f word) ws e in
    fields_held births f special k h n word r.0 ws r.1 r.2

slot_of : (births : List ℕ) (f : File) (ws : List ℕ) (i : ℕ) → i < length ws → slice_get (map (ref_by (meant births f)) ws) i ≡ Some (ref_by (meant births f) (get_or ws i 0))
slot_of births f ws i h = slice_get-map (ref_by (meant births f)) ws i ∙ ap (option_map (ref_by (meant births f))) (slice_get-get_or ws i 0 h)

-- slot i of what a word names
field_at : (births : List ℕ) (f : File) (k : Kept) (n word : ℕ) (ws : List ℕ) → Fields births f k n word ws → (i : ℕ) → i < n
    → option_and_then (λ slots. slice_get slots i) (slots_of k n (ref_by (meant births f) word)) ≡ Some (ref_by (meant births f) (get_or ws i 0))
unfolding slots_of
field_at births f k n word ws s i inside =
    let l = length-map ws (ref_by (meant births f)) in
    let long : leb n (length (map (ref_by (meant births f)) ws)) ≡ true = leb_true _ _ (let m = s.long in omega (arith, l, m)) in
    ap (λ (x : Ref). option_and_then (λ slots. slice_get slots i) (at_least n (slots_in (object_of k x)))) s.names
    ∙ ap (λ (o : Option Obj). option_and_then (λ slots. slice_get slots i) (at_least n (slots_in o))) s.at
    ∙ ap (λ b. option_and_then (λ slots. slice_get slots i) (cond b (Some (map (ref_by (meant births f)) ws)) None)) long
    ∙ slot_of births f ws i (let m = s.long in omega (arith, inside, m))

-- ---- the active process

-- the scheduler is read from the special-object array by way of its link, and the process from the scheduler
active_from : (births : List ℕ) (f : File) (special : ℕ) (k : Kept) → HasFile births f special k → (array link scheduler : List ℕ)
    → Fields births f k 51 special array → Fields births f k 2 (get_or array 3 0) link → Fields births f k 2 (get_or link 1 0) scheduler
    → active_process k ≡ Some (ref_by (meant births f) (get_or scheduler 1 0))
unfolding active_process scheduler_of special_at
active_from births f special k h array link scheduler a l s =
    ap (option_and_then (λ (x : Ref). option_and_then (λ slots. slice_get slots 1) (slots_of k 2 x))) is
    ∙ field_at births f k 2 (get_or link 1 0) scheduler s 1 (omega arith)
  where
    third : special_at k 3 ≡ Some (ref_by (meant births f) (get_or array 3 0))
    third = ap (λ (n : ℕ). option_and_then (λ slots. slice_get slots 3) (slots_in (object_at k n))) h.special
        ∙ ap (λ (r : Option Obj). option_and_then (λ slots. slice_get slots 3) (slots_in r)) a.at
        ∙ slot_of births f array 3 (let m = a.long in omega (arith, m))

    is : scheduler_of k ≡ Some (ref_by (meant births f) (get_or link 1 0))
    is = ap (option_and_then (λ (x : Ref). option_and_then (λ slots. slice_get slots 1) (slots_of k 2 x))) third
        ∙ field_at births f k 2 (get_or array 3 0) link l 1 (omega arith)

active_is : (births : List ℕ) (f : File) (special : ℕ) (k : Kept) → HasFile births f special k → (w : ℕ) → active_process_in f special ≡ Some w → active_process k ≡ Some (ref_by (meant births f) w)
active_is births f special k h w e =
    let a = and_then_some (λ (sp : List ℕ). option_and_then (λ (link : List ℕ). option_map (λ (scheduler : List ℕ). get_or scheduler 1 0) (fields_in f 2 (get_or link 1 0))) (fields_in f 2 (get_or sp 3 0))) (special_in f special) w e in
    let b = and_then_some (λ (link : List ℕ). option_map (λ (scheduler : List ℕ). get_or scheduler 1 0) (fields_in f 2 (get_or link 1 0))) (fields_in f 2 (get_or a.0 3 0)) w a.2 in
    let c = map_some (λ (scheduler : List ℕ). get_or scheduler 1 0) (fields_in f 2 (get_or b.0 1 0)) w b.2 in
    let o = and_then_some (λ (x : FileObject). cond (x.format == 2) (fields_of 51 x) None) (named f special) a.0 a.1 in
    active_from births f special k h a.0 b.0 c.0
    (fields_held births f special k h 51 special o.0 a.0 o.1 (taken (o.0.format == 2) (fields_of 51 o.0) a.0 o.2))
    (fields_named births f special k h 2 (get_or a.0 3 0) b.0 b.1)
    (fields_named births f special k h 2 (get_or b.0 1 0) c.0 c.1)
    ∙ ap (λ (n : ℕ). Some (ref_by (meant births f) n)) c.2
  where
    taken : (b : Bool) (r : Option (List ℕ)) (ws : List ℕ) → cond b r None ≡ Some ws → r ≡ Some ws
    taken true r ws e = e
    taken false r ws e = absurd (cc)

-- ---- a live context

abbrev pub slot : FileObject → ℕ → ℕ
slot o i = get_or o.words i 0

record LiveHeld (births : List ℕ) (f : File) (k : Kept) (word : ℕ) : Type 0 where
  y : FileObject
  j : ℕ
  pc : ℕ
  names : ref_by (meant births f) word ≡ meant births f word
  there : slice_get (visible f) j ≡ Some y
  class : (y.class == context_class) ≡ true
  at : object_at k (birth births f word) ≡ Some (Ctx (context_by (meant births f) y.hash y.words))
  live : natural_in_word (slot y 1) ≡ Some pc

live_held : (births : List ℕ) (f : File) (special : ℕ) (k : Kept) → HasFile births f special k → (word : ℕ) → names f is_live_context word ≡ true → LiveHeld births f k word
unfolding obj_by
live_held births f special k h word e =
    let r = passes_some is_live_context (named f word) e in
    let a = and_true (r.0.class == context_class) (is_some (natural_in_word (slot r.0 1))) r.2 in
    let n = is_some_some (natural_in_word (slot r.0 1)) a.1 in
    let s = held births f special k h word r.0 r.1 (context_seen r.0 a.0) in
    let is : obj_by (meant births f) (head_in r.0) r.0.words ≡ Ctx (context_by (meant births f) r.0.hash r.0.words) = rw a.0 refl in
    record { y = r.0; j = s.j; pc = n.0; names = s.names; there = s.there; class = a.0; at = s.at ∙ ap Some is; live = n.1 }

-- ---- its method

length-bytes : (ws : List ℕ) → length (bytes_of_words ws) ≡ 4 * length ws
unfolding bytes_of_words
length-bytes [] = refl
length-bytes (w ∷ ws) = let l = length-bytes ws in omega (arith, l)

pub record MethodHeld (births : List ℕ) (f : File) (k : Kept) (word pc : ℕ) : Type 0 where
  pub method : Obj
  pub names : ref_by (meant births f) word ≡ meant births f word
  pub at : object_at k (birth births f word) ≡ Some method
  pub lies : lies_in (Some method) pc ≡ true

-- a method is no context, since a context's format is 3
no_context : (f : File) (special j : ℕ) (m : FileObject) → IsSoundFile f special → slice_get (visible f) j ≡ Some m → is_method_format m.format ≡ true → (m.class == context_class) ≡ false
no_context f special j m sound there method = go (m.class == context_class) refl
  where
    go : (b : Bool) → (m.class == context_class) ≡ b → (m.class == context_class) ≡ false
    go false e = e
    go true e =
        let parts = seven _ _ _ _ _ _ _ (context_at f special j m sound there e) in
        let wrong : false ≡ true = ap is_method_format (sym (equal m.format 3 parts.format)) ∙ method in
        absurd (cc)

no_pointers : (format : ℕ) → is_method_format format ≡ true → is_pointer_format format ≡ false
no_pointers format h = grind (arith, nat_tests, h)

pub method_held : (births : List ℕ) (f : File) (special : ℕ) (k : Kept) → HasFile births f special k → (word pc_word pc : ℕ) → natural_in_word pc_word ≡ Some pc → is_lost f word ≡ false
    → names f (is_pc_of pc_word) word ≡ true → MethodHeld births f k word pc
unfolding obj_by
method_held births f special k h word pc_word pc number kept e =
    let r = passes_some (is_pc_of pc_word) (named f word) e in
    let a = and_true (is_method_format r.0.format) _ r.2 in
    let s = held births f special k h word r.0 r.1 (seen f word r.0 h.ground_of.aligned kept r.1) in
    let c = no_context f special s.j r.0 h.ground_of.sound s.there a.0 in
    let p = no_pointers r.0.format a.0 in
    let fits = ((fine_at f special s.j r.0 h.ground_of.sound s.there).method p a.0).0.fits in
    let is : obj_by (meant births f) (head_in r.0) r.0.words
    ≡ Method (head_in r.0) (header_in_words r.0.words) (map (ref_by (meant births f)) (literals_in_words r.0.words)) (bytecodes_in_words r.0.format r.0.words) = rw (c, p, a.0) refl in
    record {
      method = Method (head_in r.0) (header_in_words r.0.words) (map (ref_by (meant births f)) (literals_in_words r.0.words)) (bytecodes_in_words r.0.format r.0.words);
      names = s.names;
      at = s.at ∙ ap Some is;
      lies = (λ i. lies_between (first r.0.words fits i) (count r.0.format r.0.words i) pc)
          ∙ ap (λ (o : Option ℕ). option_map_or (lies_between (4 * (1 + literal_count (header_in_words r.0.words)) + 1) (bytecode_count r.0.format r.0.words)) o false) (sym number) ∙ a.1;
    }
  where
    first : (ws : List ℕ) → literal_count (header_in_words ws) < length ws → first_pc (map (ref_by (meant births f)) (literals_in_words ws)) ≡ 4 * (1 + literal_count (header_in_words ws)) + 1
    first ws fits =
        let d = length-drop 1 ws in
        let l = length-map (literals_in_words ws) (ref_by (meant births f)) in
        let t = length-take-le (literal_count (header_in_words ws)) (drop 1 ws) (omega (arith, d, fits)) in
        let same : length (map (ref_by (meant births f)) (literals_in_words ws)) + 1 ≡ 1 + literal_count (header_in_words ws) = omega (arith, l, t) in
        ap (λ (n : ℕ). 4 * n + 1) same

    count : (format : ℕ) (ws : List ℕ) → length (bytecodes_in_words format ws) ≡ bytecode_count format ws
    count format ws =
        let n : ℕ = 1 + literal_count (header_in_words ws) in
        let d = length-drop n ws in
        let b = length-bytes (drop n ws) in
        length-take-le (bytecode_count format ws) (bytes_of_words (drop n ws)) (omega (arith, d, b))

-- ---- the whole

-- a number is odd, and nil's address isn't
pub not_nil : (f : File) (special : ℕ) → Ground f special → (word pc : ℕ) → natural_in_word word ≡ Some pc → file.is_nil_word f word ≡ false
not_nil f special g word pc e = go (file.is_nil_word f word) refl
  where
    even : (n : ℕ) → n % 4 ≡ 0 → natural_in_word n ≡ None
    even n z = natural_even n (omega (arith, z))

    go : (b : Bool) → file.is_nil_word f word ≡ b → file.is_nil_word f word ≡ false
    go false h = h
    go true h =
        let is : word ≡ nil_in f = equal word (nil_in f) h in
        let none : natural_in_word word ≡ None = ap natural_in_word is ∙ even (nil_in f) (nil_aligned f g.aligned g.first) in
        absurd (cc (sym none ∙ e))

pub or_second : (a b : Bool) → (a || b) ≡ true → a ≡ false → b ≡ true
or_second true b h e = absurd (cc)
or_second false b h e = h

-- a process that isn't nil lets the state open
can_open : (births : List ℕ) (f : File) (special : ℕ) (k : Kept) → HasFile births f special k → (w : ℕ) → active_process_in f special ≡ Some w → is_process_word f w ≡ true → file.is_nil_word f w ≡ false → CanOpen k
can_open births f special k h w active process filled =
    let r = passes_some (λ (ws : List ℕ). names f is_live_context (get_or ws 1 0)) (fields_in f 4 w) (or_second (file.is_nil_word f w) _ process filled) in
    let p = fields_named births f special k h 4 w r.0 r.1 in
    let c = live_held births f special k h (get_or r.0 1 0) r.2 in
    let parts = seven _ _ _ _ _ _ _ (context_at f special c.j c.y h.ground_of.sound c.there c.class) in
    let three : c.y.format ≡ 3 = equal c.y.format 3 parts.format in
    let fine = fine_at f special c.j c.y h.ground_of.sound c.there in
    let long = (fine.context c.class).1 in
    let kept : is_lost f (slot c.y 3) ≡ false = fine.pointers (ap is_pointer_format three) 3 (omega (arith, long)) in
    let m = method_held births f special k h (slot c.y 3) (slot c.y 1) c.pc c.live kept
    (or_second (file.is_nil_word f (slot c.y 1)) _ parts.pc (not_nil f special h.ground_of (slot c.y 1) c.pc c.live)) in
    record {
      p = birth births f w;
      head = p.head;
      slots = map (ref_by (meant births f)) r.0;
      i = birth births f (get_or r.0 1 0);
      context = context_by (meant births f) c.y.hash c.y.words;
      pc = c.pc;
      m = birth births f (slot c.y 3);
      method = m.method;
      active = active_is births f special k h w active ∙ ap Some p.names;
      process = p.at;
      keeps = ap (λ (x : Ref). option_and_then (λ slots. slice_get slots 1) (slots_of k 4 x)) (sym p.names) ∙ field_at births f k 4 w r.0 p 1 (omega arith) ∙ ap Some c.names;
      found = c.at;
      live = c.live;
      calls = m.names;
      code = m.at;
      lies = m.lies;
    }

-- the scheduler has an active process, or nil in its place
pub file_active : (births : List ℕ) (f : File) (special : ℕ) (k : Kept) → HasFile births f special k → IsSome (active_process k)
unfolding is_bad_roots
file_active births f special k h =
    let r = passes_some (is_process_word f) (active_process_in f special) (not_false _ h.ground_of.sound.roots) in
    ap is_some (active_is births f special k h r.0 r.1)

-- the active process, which is not nil, keeps a live context
pub record CanStart (k : Kept) : Type 0 where
  pub can : CanOpen k
  pub filled : is_nil k (ref.Obj can.p) ≡ false

-- it does where a process is active
pub file_can_open : (births : List ℕ) (f : File) (special : ℕ) (k : Kept) → HasFile births f special k → is_idle k ≡ false → CanStart k
unfolding is_idle is_bad_roots
file_can_open births f special k h busy =
    let r = passes_some (is_process_word f) (active_process_in f special) (not_false _ h.ground_of.sound.roots) in
    let active = active_is births f special k h r.0 r.1 in
    let filled : is_nil k (ref_by (meant births f) r.0) ≡ false = sym (ap (is_idle_at k) active) ∙ busy in
    let c = can_open births f special k h r.0 r.1 r.2 (no_nil r.0 (file.is_nil_word f r.0) refl filled) in
    record { can = c; filled = ap (is_idle_at k) (sym c.active) ∙ busy }
  where
    no_nil : (w : ℕ) (b : Bool) → file.is_nil_word f w ≡ b → is_nil k (ref_by (meant births f) w) ≡ false → file.is_nil_word f w ≡ false
    no_nil w false e n = e
    no_nil w true e n = absurd (cc (sym (nil_held births f special k h w e) ∙ n))

-- the state of a heap into which a file was loaded
pub has_file : (births : List ℕ) (f : File) (special : ℕ) (table : FinMap nat_cmp ℕ) (roots : Roots) → Ground f special → roots.special.0 ≡ address_named f special → AreBirths births (length (visible f)) roots.next_birth
    → HasFile births f special (kept_of (memory_of births f) table roots None)
has_file births f special table roots g at next =
    let three = visible_three f g.table in
    record {
      ground_of = g;
      sound = memory_sound births f special roots.next_birth g next;
      objects = refl;
      special = ap (heap.birth_at (memory_of births f)) at ∙ birth_of-named births f special (special_stands births f special g.sound.roots);
      nil = birth_is_place births f (visible f) 0 (omega (arith, three));
    }

-- so the opened state is running where a process is active
pub file_opens : (births : List ℕ) (f : File) (special : ℕ) (k : Kept) → HasFile births f special k → is_idle k ≡ false → IsRunning (open_kept k)
file_opens births f special k h busy = let c = file_can_open births f special k h busy in opens k c.can c.filled

-- what was built for a file without faults
pub built_opens : (births : List ℕ) (bytes : List ℕ) (file : File) (objects : List Object) (table : FinMap nat_cmp ℕ) (roots : Roots) → file ≡ file_of bytes → IsBuilt births bytes file objects table roots
    → old_base bytes % 8 ≡ 0 → IsSoundFile (file_of bytes) (special_address bytes)
    → is_idle (kept_of objects table roots None) ≡ false → IsRunning (open_kept (kept_of objects table roots None))
built_opens births bytes file objects table roots same b base_is s =
    let f : File = file_of bytes in
    let special = special_address bytes in
    let r = built_roots births bytes file objects table roots same b in
    let P : List Object → Type 0 = λ os. is_idle (kept_of os table roots None) ≡ false → IsRunning (open_kept (kept_of os table roots None)) in
    subst P (sym (b.objects_are ∙ ap (λ (f : File). loaded_from f births 0 (visible f)) same))
    (file_opens births f special (kept_of (memory_of births f) table roots None) (has_file births f special table roots (ground_of bytes base_is s) r.special r.known))
