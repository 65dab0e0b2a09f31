-- A return past a home: contexts die along the senders, until the home is met.
use Rattle.std.proofs.Common.{◌≡◌, ◌≢◌, ℕ, ◌+◌, ◌≤◌, Bool, true, false, refl, sym, ap, subst, ◌∙◌, Option, Some, None, IfSome, IsSomeAnd, is_some, option_and_then, List, [], ◌∷◌, length, arith}
use Rattle.std.specs.Prelude.{◌==◌}
use Rattle.std.proofs.lemmas.Bool.{eq-eqb, eqb-true, false≢true}
use Rattle.cs_word.specs.declared.Oop.{Oop}
use Rattle.cs_heap.specs.Object.{Memory, Object, birth_at, is_object, slot_count_of, slot_of}
use Rattle.cs_classes.proofs.Heaps.{birth_of-object_at, is_object-object_at}
use Rattle.cs_model.specs.Obj.{Context, Obj, context_in}
use Rattle.cs_model.specs.State.{Kept, object_at}
use Rattle.cs_model.specs.Keeps.{Keeps}
use Rattle.cs_model.specs.Read.{active_birth}
use Rattle.cs_model.specs.Operation.{cut_to_of, kill_all, kill_of, push_of, resume_of}
use Rattle.cs_model.specs.Return.{has_room, is_among, links, sender_birth, senders_to}
use Rattle.cs_model.proofs.Operating.{cut_to_moved}
use Rattle.cs_model.proofs.Same.{same}
use Rattle.cs_acts.specs.Names.{IsNamed, KeepsNames, name_of}
use Rattle.cs_acts.specs.Ready.{IsReady, IsSound}
use Rattle.cs_acts.specs.Targets.{CanCut, dying_in, dying_to}
use Rattle.cs_plain.specs.declared.PlainWorld.{PlainWorld}
use Rattle.cs_plain.specs.Cutting.{AtHome, CanLand, landed_of}
use Rattle.cs_plain.specs.Storing.{plain_buried}
use Rattle.cs_plain.specs.View.{plain_active, oop_birth, plain_stored, plain_view}
use Rattle.cs_plain.proofs.Acts as acts
use Rattle.cs_plain.proofs.Acts.{ContextAt, sender_read}
use Rattle.cs_plain.proofs.Leaving.{buried_edited, buried_sound, killed, names_both, some_same}
use Rattle.cs_plain.proofs.Ways.{IsWay, first_apart, killed_other, killed_sender, killed_way, rest_apart, search_first, way_apart}
use Rattle.cs_plain.proofs.Writing.{held_by}
use Rattle.cs_heap.specs.Writes.{slots_stored}
use Rattle.cs_acts.proofs.Dirty.{names-dirtied, sound-dirtied}
use Rattle.cs_plain.proofs.Written.{dirtied, keeps_names, with_objects}

-- So many contexts are dead, and this one is the next. What is left to die is the way from it to the home, in the state that is left.
pub record Cuts (w v : PlainWorld) (home target : ℕ) (c : Oop) (n : ℕ) : Type 0 where
  pub birth : ℕ
  pub rest : List ℕ
  pub at : oop_birth v.heap.objects c ≡ Some birth
  pub way : IsWay (plain_view v) home birth rest
  pub kills : kill_all (birth ∷ rest) (plain_view v) ≡ kill_all (dying_to (plain_view w) home) (plain_view w)
  pub few : length rest + n ≤ links
  pub sender : sender_birth (plain_view v) home ≡ Some target
  pub apart : is_among target (birth ∷ rest) ≡ false
  pub stays : object_at (plain_view v) target ≡ object_at (plain_view w) target
  pub sound : IsSound (plain_stored v) (plain_view v)
  pub names : KeepsNames (plain_stored w) (plain_stored v)
  pub limit : v.heap.limit ≡ w.heap.limit

cuts-dirtied : {w v : PlainWorld} {home target : ℕ} {c : Oop} {n : ℕ} (d : Bool) → Cuts w v home target c n → Cuts w (dirtied v d) home target c n
cuts-dirtied {w = w} {v = v} d h = record {
  birth = h.birth;
  rest = h.rest;
  at = h.at;
  way = h.way;
  kills = h.kills;
  few = h.few;
  sender = h.sender;
  apart = h.apart;
  stays = h.stays;
  sound = sound-dirtied d h.sound;
  names = names-dirtied (plain_stored w) (plain_stored v) d h.names;
  limit = h.limit;
}

-- ---- at the beginning

module _ (w : PlainWorld) (home : ℕ) (a : Oop) (ready : IsReady (plain_stored w) (plain_view w)) (known : w.active ≡ Some a) where
  begins : (target : ℕ) → sender_birth (plain_view w) home ≡ Some target → CanCut (plain_view w) home target → Cuts w w home target a 0
  unfolding senders_to
  begins target sender can =
      let k = plain_view w in
      let i : ℕ = active_birth k in
      let found = search_first links k home (sender_birth k i) can.passed can.met in
      let dying : dying_to k home ≡ i ∷ found.0 ∷ found.1.1.rest = ap (dying_in i home) can.met ∙ ap (λ us. i ∷ us) (sym found.1.1.is) in
      let apart : is_among target (i ∷ found.0 ∷ found.1.1.rest) ≡ false = subst (λ us. is_among target us ≡ false) dying can.apart in
      let other : (i == home) ≡ false = not_home i target found.0 found.1.1.rest (sender_birth k i) found.1.0 apart (λ e. ap (sender_birth k) e ∙ sender) in
      record {
        birth = i;
        rest = found.0 ∷ found.1.1.rest;
        at = sym (ap (plain_active w.heap.objects) known) ∙ ready.running.known;
        way = (other, found.1.0, found.1.1.way);
        kills = ap (λ us. kill_all us k) (sym dying);
        few = omega (arith, found.1.1.few);
        sender = sender;
        apart = apart;
        stays = refl;
        sound = ready.sound;
        names = λ o named. record { sound = named; is = refl };
        limit = refl;
      }
    where
      -- else its sender would be the target, which doesn't die
      not_home : (i target j : ℕ) (rest : List ℕ) (o : Option ℕ) → o ≡ Some j → is_among target (i ∷ j ∷ rest) ≡ false → (i ≡ home → o ≡ Some target) → (i == home) ≡ false
      not_home i target j rest o is apart alike = go (i == home) refl
        where
          go : (b : Bool) → (i == home) ≡ b → b ≡ false
          go false e = refl
          go true e = absurd (first_apart target j rest (rest_apart target i (j ∷ rest) apart) (some_same j target (sym is ∙ alike (eqb-true i home e))))

  pub cuts_first : IsSomeAnd (sender_birth (plain_view w) home) (CanCut (plain_view w) home) → IfSome (sender_birth (plain_view w) home) (λ target. Cuts w w home target a 0)
  cuts_first h = go (sender_birth (plain_view w) home) refl h
    where
      go : (o : Option ℕ) → sender_birth (plain_view w) home ≡ o → IsSomeAnd o (CanCut (plain_view w) home) → IfSome o (λ target. Cuts w w home target a 0)
      go None e h = absurd h
      go (Some target) e h = begins target e h

-- ---- what is left to die, with the target that is told

pub record Cutting (w v : PlainWorld) (home : ℕ) (c : Oop) (n : ℕ) : Type 0 where
  pub target : ℕ
  pub is : sender_birth (plain_view w) home ≡ Some target
  pub cuts : Cuts w v home target c n

pub cutting : (w v : PlainWorld) (home : ℕ) (c : Oop) (n : ℕ) → IsSomeAnd (sender_birth (plain_view w) home) (CanCut (plain_view w) home) → IfSome (sender_birth (plain_view w) home) (λ target. Cuts w v home target c n) → Cutting w v home c n
cutting w v home c n some h = go (sender_birth (plain_view w) home) refl some h
  where
    go : (o : Option ℕ) → sender_birth (plain_view w) home ≡ o → IsSomeAnd o (CanCut (plain_view w) home) → IfSome o (λ target. Cuts w v home target c n) → Cutting w v home c n
    go None e s h = absurd s
    go (Some target) e s h = record { target = target; is = e; cuts = h }

module _ (w v : PlainWorld) (home : ℕ) (c : Oop) (n : ℕ) (t : Cutting w v home c n) where
  abbrev target : ℕ
  target = t.target

  abbrev cuts : Cuts w v home target c n
  cuts = t.cuts

  abbrev x : Object
  x = (acts.context_at v c cuts.sound (ap is_some cuts.at)).0

  at : ContextAt v c x
  at = (acts.context_at v c cuts.sound (ap is_some cuts.at)).1

  birth_is : x.birth ≡ cuts.birth
  birth_is = some_same x.birth cuts.birth (sym at.birth ∙ cuts.at)

  pub is_there : is_object v.heap.objects c.0 ≡ true
  is_there = is_object-object_at v.heap.objects c.0 x at.there

  pub six_there : 6 ≤ slot_count_of v.heap.objects c.0
  six_there = omega (arith, at.whole.fields, at.count)

  birth_read : birth_at v.heap.objects c.0 ≡ cuts.birth
  birth_read = birth_of-object_at v.heap.objects c.0 x at.there ∙ birth_is

  -- ---- the home is met

  met : cuts.rest ≡ [] → IfSome (sender_birth (plain_view w) home) (λ target. AtHome w v home target c)
  unfolding kill_all
  met none =
      let is : cuts.birth ≡ home = subst (λ us. IsWay (plain_view v) home cuts.birth us) none cuts.way in
      subst (λ o. IfSome o (λ target. AtHome w v home target c)) (sym t.is) (record {
        birth = cuts.at ∙ ap (λ n. Some n) is;
        kills = ap (kill_of (plain_view v)) (sym is) ∙ ap (λ us. kill_all (cuts.birth ∷ us) (plain_view v)) (sym none) ∙ cuts.kills;
        sender = cuts.sender;
        other = λ e. first_apart target cuts.birth cuts.rest cuts.apart (is ∙ sym e);
        stays = cuts.stays;
        sound = cuts.sound;
        names = cuts.names;
        limit = cuts.limit;
      })

  pub met_home : (birth : ℕ) → birth ≡ birth_at v.heap.objects c.0 → birth ≡ home → IfSome (sender_birth (plain_view w) home) (λ target. AtHome w v home target c)
  met_home birth read is = met (none cuts.rest cuts.way)
    where
      none : (us : List ℕ) → IsWay (plain_view v) home cuts.birth us → us ≡ []
      none [] way = refl
      none (j ∷ js) way = absurd (false≢true (sym way.0 ∙ eq-eqb cuts.birth home (sym birth_read ∙ sym read ∙ is)))

  -- or all links were followed
  pub met_last : links ≤ n → IfSome (sender_birth (plain_view w) home) (λ target. AtHome w v home target c)
  met_last all = met (none cuts.rest (omega (arith, cuts.few, all)))
    where
      none : (us : List ℕ) → length us ≡ 0 → us ≡ []
      none [] e = refl
      none (j ∷ js) e = absurd (omega (arith, e))

  -- ---- one more dies

  module _ (sender : Oop) (h : Memory) (read : sender.0 ≡ slot_of v.heap.objects c.0 0) (e : h ≡ slots_stored v.heap c.0 (plain_buried v.heap.objects c.0)) where
    abbrev u : PlainWorld
    u = with_objects v (plain_buried v.heap.objects c.0)

    goes_on : (j : ℕ) (js : List ℕ) → cuts.rest ≡ j ∷ js → Cuts w u home target sender (n + 1)
    unfolding kill_all
    goes_on j js is =
        let k = plain_view v in
        let i : ℕ = cuts.birth in
        let way : IsWay k home i (j ∷ js) = subst (λ us. IsWay k home i us) is cuts.way in
        let there = ap (object_at k) (sym birth_is) ∙ at.means in
        let view : plain_view u ≡ kill_of k i = killed cuts.sound at ∙ ap (kill_of k) birth_is in
        let apart : is_among target (i ∷ j ∷ js) ≡ false = subst (λ us. is_among target (i ∷ us) ≡ false) is cuts.apart in
        let own : is_among i (j ∷ js) ≡ false = way_apart k home i (j ∷ js) way in
        let not_home : home ≢ i = λ e. false≢true (sym way.0 ∙ eq-eqb i home (sym e)) in
        record {
          birth = j;
          rest = js;
          at = (buried_edited cuts.sound at).births sender ∙ sender_read cuts.sound at sender read ∙ ap (sender_birth k) birth_is ∙ way.1;
          way = subst (λ m. IsWay m home j js) (sym view) (killed_way k i _ there home j js own way.2);
          kills = ap (kill_all (j ∷ js)) view ∙ ap (λ us. kill_all (i ∷ us) k) (sym is) ∙ cuts.kills;
          few = omega (arith, cuts.few, ap length is);
          sender = ap (λ m. sender_birth m home) view ∙ killed_sender k i _ there home not_home ∙ cuts.sender;
          apart = rest_apart target i (j ∷ js) apart;
          stays = ap (λ m. object_at m target) view ∙ killed_other k i _ there target (λ e. first_apart target i (j ∷ js) apart (sym e)) ∙ cuts.stays;
          sound = buried_sound cuts.sound at;
          names = names_both w v u cuts.names (keeps_names v (plain_buried v.heap.objects c.0) (buried_edited cuts.sound at));
          limit = cuts.limit;
        }

    pub next : (birth : ℕ) → birth ≡ birth_at v.heap.objects c.0 → birth ≢ home → IfSome (sender_birth (plain_view w) home) (λ target. Cuts w (record v { heap = h }) home target sender (n + 1))
    next birth is other = subst (λ o. IfSome o (λ target. Cuts w (record v { heap = h }) home target sender (n + 1))) (sym t.is)
        (subst (λ (g : Memory). Cuts w (record v { heap = g }) home target sender (n + 1)) (sym e) (cuts-dirtied (slots_stored v.heap c.0 (plain_buried v.heap.objects c.0)).dirty (go cuts.rest refl)))
      where
        go : (us : List ℕ) → cuts.rest ≡ us → Cuts w u home target sender (n + 1)
        go [] none = absurd (other (is ∙ birth_read ∙ subst (λ us. IsWay (plain_view v) home cuts.birth us) none cuts.way))
        go (j ∷ js) some = goes_on j js some

-- ---- the value is pushed behind it

pub record Cut (w v : PlainWorld) (home : ℕ) (c : Oop) : Type 0 where
  pub target : ℕ
  pub is : sender_birth (plain_view w) home ≡ Some target
  pub can : CanCut (plain_view w) home target
  pub at : AtHome w v home target c

pub cut : (w v : PlainWorld) (home : ℕ) (c : Oop) → IsSomeAnd (sender_birth (plain_view w) home) (CanCut (plain_view w) home) → IfSome (sender_birth (plain_view w) home) (λ target. AtHome w v home target c) → Cut w v home c
cut w v home c some h = go (sender_birth (plain_view w) home) refl some h
  where
    go : (o : Option ℕ) → sender_birth (plain_view w) home ≡ o → IsSomeAnd o (CanCut (plain_view w) home) → IfSome o (λ target. AtHome w v home target c) → Cut w v home c
    go None e s h = absurd s
    go (Some target) e s h = record { target = target; is = e; can = s; at = h }

pub can_land : (w v : PlainWorld) (home : ℕ) (c : Oop) → Cut w v home c → IsSomeAnd (oop_birth v.heap.objects c) (λ home. IsSomeAnd (sender_birth (plain_view v) home) (CanLand (plain_view v) home))
can_land w v home c t =
    subst (λ o. IsSomeAnd o (λ home. IsSomeAnd (sender_birth (plain_view v) home) (CanLand (plain_view v) home))) (sym t.at.birth)
    (subst (λ o. IsSomeAnd o (CanLand (plain_view v) home)) (sym t.at.sender) (record {
      live = ap (λ o. is_some (option_and_then (λ (d : Context). d.pc) (context_in o))) t.at.stays ∙ t.can.live;
      other = t.at.other;
      room = ap (λ o. has_room (context_in o)) t.at.stays ∙ t.can.room;
    }))

-- the state in the end
pub cut_exact : (w v u : PlainWorld) (home : ℕ) (c x : Oop) (t : Cut w v home c) → IsNamed (plain_stored w) x
    → IfSome (oop_birth v.heap.objects c) (λ home. IfSome (sender_birth (plain_view v) home) (λ target. plain_view u ≡ landed_of (plain_view v) home target (name_of (plain_stored v) x)))
    → plain_view u ≡ cut_to_of (plain_view w) (dying_to (plain_view w) home) t.target (name_of (plain_stored w) x)
unfolding cut_to_of
cut_exact w v u home c x t named h =
    let landed : plain_view u ≡ landed_of (plain_view v) home t.target (name_of (plain_stored v) x) =
    subst (λ o. IfSome o (λ target. plain_view u ≡ landed_of (plain_view v) home target (name_of (plain_stored v) x))) t.at.sender
    (subst (λ o. IfSome o (λ home. IfSome (sender_birth (plain_view v) home) (λ target. plain_view u ≡ landed_of (plain_view v) home target (name_of (plain_stored v) x)))) t.at.birth h) in
    landed ∙ ap (landed_of (plain_view v) home t.target) (t.at.names x named).is ∙ ap (λ m. push_of (resume_of m t.target) (name_of (plain_stored w) x)) t.at.kills

pub cut_state : (w u : PlainWorld) (x : Oop) (home target : ℕ) → IsReady (plain_stored w) (plain_view w) → IsNamed (plain_stored w) x → CanCut (plain_view w) home target
    → plain_view u ≡ cut_to_of (plain_view w) (dying_to (plain_view w) home) target (name_of (plain_stored w) x) → (m : Kept) → Keeps (plain_view w) m
    → Keeps (plain_view u) (cut_to_of m (dying_to (plain_view w) home) target (name_of (plain_stored w) x))
cut_state w u x home target ready named can view m k =
    subst (λ v. Keeps v (cut_to_of m (dying_to (plain_view w) home) target (name_of (plain_stored w) x))) (sym view)
    (cut_to_moved k (dying_to (plain_view w) home) (same target (held (object_at (plain_view w) target) can.live)) (held_by w x ready named)).keeps
  where
    held : (o : Option Obj) → is_some (option_and_then (λ (c : Context). c.pc) (context_in o)) ≡ true → is_some o ≡ true
    held None h = absurd (false≢true h)
    held (Some o) h = refl

-- what is said where there is one
pub told : (o : Option ℕ) (i : ℕ) (P : ℕ → Type 0) → o ≡ Some i → P i → IfSome o P
told o i P e h = subst (λ p. IfSome p P) (sym e) h

pub of_some : (o : Option ℕ) (i : ℕ) (P : ℕ → Type 0) → o ≡ Some i → IsSomeAnd o P → P i
of_some o i P e h = subst (λ p. IsSomeAnd p P) e h
