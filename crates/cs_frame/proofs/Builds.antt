-- A new frame above the last one of its page.
use Rattle.std.proofs.Common.{◌≡◌, ◌≢◌, ℕ, zero, suc, ◌+◌, ◌-◌, ◌*◌, ◌/◌, ◌%◌, ◌^◌, ◌<◌, ◌≤◌, List, [], ◌∷◌, ◌++◌, length, get_or, set, take, drop, replicate, get_or-set_same, refl, sym, ◌∙◌, ap, subst, inl, inr, arith}
use Rattle.std.specs.List.{CopiedTo, SameBelow, SameFrom}
use Rattle.std.proofs.lemmas.Bool.{cases_lt}
use Rattle.std.proofs.lemmas.List.{length-set}
use Rattle.cs_frame.specs.declared.PageHead.{PageHead}
use Rattle.cs_frame.specs.declared.Begin.{Begin}
use Rattle.cs_frame.specs.declared.NewFrame.{NewFrame}
use Rattle.cs_frame.specs.Frame.{Frame, nil, call_cut}
use Rattle.cs_frame.specs.Page.{frames_used, top, frames_of, on_page, fresh, called, HasArguments, HoldsValues}
use Rattle.cs_frame.specs.Layout.{words_from, frame_at, frames_down, below, joined, NoLink, IsWholeFrame, Stands, IsPageOfWords, AreFramesLaid, pages_of}
use Rattle.cs_frame.specs.Written.{SameOutside, AllAre, HasOverhead, half_word}
use Rattle.cs_frame.proofs.Words.{Same, words_same, words_append, words_take, words_drop, words_moved, words_const, length-words, frame_parts, overhead_same, whole_to}
use Rattle.cs_frame.proofs.Stacks.{base_below, used_is, top_changed}
use Rattle.cs_frame.proofs.Pages.{Opened, opened, closed, SameOff, length-pages}
use Rattle.cs_frame.proofs.Calls.{used_words, some_frame, top_place}

-- where the stack of the new frame ends
abbrev pub end_with : Begin → NewFrame → ℕ
end_with b new = b.frame + 10 + new.args + new.fill

-- what the words v hold once the frame is written over the words w, in which the page's frames ended at sp
pub record Built (v w : List ℕ) (sp : ℕ) (b : Begin) (new : NewFrame) : Type 0 where
  pub len : length v ≡ length w
  pub below_it : (k : ℕ) → k < b.frame → get_or v k 0 ≡ get_or w k 0
  pub above_it : (k : ℕ) → end_with b new ≤ k → get_or v k 0 ≡ get_or w k 0
  pub overhead : HasOverhead v b.frame (b.caller * 8 + 4) b.sender new
  pub moved : (k : ℕ) → k < new.args → get_or v (b.frame + 10 + k) 0 ≡ get_or w (sp - new.args + k) 0
  pub nils : AllAre v (b.frame + 10 + new.args) (end_with b new) 65536

-- where a new frame begins over n frames that end at sp
pub record Begins (n base fp sp : ℕ) (b : Begin) (new : NewFrame) : Type 0 where
  pub lowest : n ≡ 0 → (b.frame ≡ base) × (b.caller ≡ base) × (b.sender ≡ new.receiver.0)
  pub later : 0 < n → (b.frame + (new.args + 1) ≡ sp) × (b.caller ≡ fp) × (b.sender ≡ 65536)

pub birth_back : (birth : ℕ) → joined (half_word (birth % 2 ^ 31)) (half_word (birth / 2 ^ 31)) ≡ birth
birth_back birth = omega arith

pub built_stack : (v w : List ℕ) (sp : ℕ) (b : Begin) (new : NewFrame) → Built v w sp b new
    → words_from v (b.frame + 10) (end_with b new - (b.frame + 10)) ≡ words_from w (sp - new.args) new.args ++ replicate new.fill nil
built_stack v w sp b new x =
    let e : end_with b new - (b.frame + 10) ≡ new.args + new.fill = omega arith in
    let i = b.frame + 10 in
    ap (λ (j : ℕ). words_from v i j) e ∙ (words_append v i new.args new.fill
    ∙ (ap (λ (ys : List ℕ). ys ++ words_from v (i + new.args) new.fill) (words_moved v w i (sp - new.args) new.args x.moved)
    ∙ ap (λ (ys : List ℕ). words_from w (sp - new.args) new.args ++ ys) (words_const v (i + new.args) new.fill 65536 x.nils)))

pub built_frame : (v w : List ℕ) (base sp : ℕ) (b : Begin) (new : NewFrame) → Built v w sp b new
    → frame_at v base b.frame (end_with b new) ≡ fresh new (b.frame - base) b.sender (words_from w (sp - new.args) new.args)
built_frame v w base sp b new x =
    let h = x.overhead in
    frame_parts v base b.frame (end_with b new) _ _ _ _ _ _ _ _ _ h.sender_is h.pc_is h.method_is h.closure_is h.context_is h.low_is h.high_is h.receiver_is
    (built_stack v w sp b new x)
    ∙ ap (λ (n : ℕ). record (fresh new (b.frame - base) b.sender (words_from w (sp - new.args) new.args)) { birth = n }) (birth_back new.birth)

-- nine places behind the first
nine : (P : ℕ → Type 0) → P 1 → P 2 → P 3 → P 4 → P 5 → P 6 → P 7 → P 8 → P 9 → (j : ℕ) → 0 < j → j < 10 → P j
nine P a b c d e f g h i zero p q = absurd (omega arith)
nine P a b c d e f g h i (suc zero) p q = a
nine P a b c d e f g h i (suc (suc zero)) p q = b
nine P a b c d e f g h i (suc (suc (suc zero))) p q = c
nine P a b c d e f g h i (suc (suc (suc (suc zero)))) p q = d
nine P a b c d e f g h i (suc (suc (suc (suc (suc zero))))) p q = e
nine P a b c d e f g h i (suc (suc (suc (suc (suc (suc zero)))))) p q = f
nine P a b c d e f g h i (suc (suc (suc (suc (suc (suc (suc zero))))))) p q = g
nine P a b c d e f g h i (suc (suc (suc (suc (suc (suc (suc (suc zero)))))))) p q = h
nine P a b c d e f g h i (suc (suc (suc (suc (suc (suc (suc (suc (suc zero))))))))) p q = i
nine P a b c d e f g h i (suc (suc (suc (suc (suc (suc (suc (suc (suc (suc n)))))))))) p q = absurd (omega arith)

plain_at : (v : List ℕ) (k x : ℕ) → get_or v k 0 ≡ x → x % 8 ≢ 4 → get_or v k 0 % 8 ≢ 4
plain_at v k x e plain q = plain (ap (λ (n : ℕ). n % 8) (sym e) ∙ q)

-- no word of the new frame but its first is a link
pub built_whole : (v w : List ℕ) (sp : ℕ) (b : Begin) (new : NewFrame) → Built v w sp b new → HoldsValues new → b.sender % 8 ≢ 4
    → NoLink w (sp - new.args) (sp - new.args + new.args) → IsWholeFrame v b.frame (end_with b new)
built_whole v w sp b new x plain sender args =
    let h = x.overhead in
    record {
      overhead = omega arith;
      link = ap (λ (n : ℕ). n % 8) h.link_is ∙ (let e : (b.caller * 8 + 4) % 8 ≡ 4 = omega arith in e);
      values = λ k lo hi. elim (cases_lt k (b.frame + 10)) [
        | inl c ↦ head h k lo c
        | inr c ↦ elim (cases_lt k (b.frame + 10 + new.args)) [
          | inl d ↦ body k c d
          | inr d ↦ plain_at v k 65536 (x.nils k d hi) (λ q. omega arith)
        ]
      ];
      pc = inl h.pc_is;
    }
  where
    head : HasOverhead v b.frame (b.caller * 8 + 4) b.sender new → (k : ℕ) → b.frame + 1 ≤ k → k < b.frame + 10 → get_or v k 0 % 8 ≢ 4
    head h k lo hi =
        let e : b.frame + (k - b.frame) ≡ k = omega arith in
        subst (λ (j : ℕ). get_or v j 0 % 8 ≢ 4) e (nine (λ j. get_or v (b.frame + j) 0 % 8 ≢ 4)
        (plain_at v (b.frame + 1) _ h.sender_is sender)
        (plain_at v (b.frame + 2) _ h.pc_is (λ q. omega arith))
        (plain_at v (b.frame + 3) _ h.method_is plain.method)
        (plain_at v (b.frame + 4) _ h.closure_is plain.closure)
        (plain_at v (b.frame + 5) _ h.context_is (λ q. omega arith))
        (plain_at v (b.frame + 6) _ h.low_is (λ q. omega arith))
        (plain_at v (b.frame + 7) _ h.high_is (λ q. omega arith))
        (plain_at v (b.frame + 8) _ h.receiver_is plain.receiver)
        (plain_at v (b.frame + 9) _ h.spare_is (λ q. omega arith))
        (k - b.frame) (omega arith) (omega arith))

    body : (k : ℕ) → b.frame + 10 ≤ k → k < b.frame + 10 + new.args → get_or v k 0 % 8 ≢ 4
    body k lo hi =
        let j = k - (b.frame + 10) in
        let e : b.frame + 10 + j ≡ k = omega arith in
        subst (λ (i : ℕ). get_or v i 0 % 8 ≢ 4) e
        (plain_at v (b.frame + 10 + j) _ (x.moved j (omega arith)) (args (sp - new.args + j) (omega arith) (omega arith)))

-- the page's frames with the new one
pub build_top : (n : ℕ) (v w : List ℕ) (base fp sp : ℕ) (b : Begin) (new : NewFrame) → Stands n w base fp sp → HasArguments new.args (frames_down n w base fp sp)
    → Begins n base fp sp b new → Built v w sp b new → HoldsValues new
    → (frames_down (suc n) v base b.frame (end_with b new) ≡ called new (frames_down n w base fp sp)) × Stands (suc n) v base b.frame (end_with b new)
build_top zero v w base fp sp b new st can be x plain =
    let f = be.lowest refl in
    let f0 = f.0 in
    let at : b.frame - base ≡ 0 = omega arith in
    let none : words_from w (sp - new.args) new.args ≡ [] = ap (λ (j : ℕ). words_from w (sp - new.args) j) can in
    let sender : b.sender % 8 ≢ 4 = λ q. plain.receiver (ap (λ (n : ℕ). n % 8) (sym f.2) ∙ q) in (
      ap (λ (g : Frame). g ∷ []) (built_frame v w base sp b new x ∙ (ap (λ (a : ℕ). fresh new a b.sender (words_from w (sp - new.args) new.args)) at
          ∙ (ap (λ (s : ℕ). fresh new 0 s (words_from w (sp - new.args) new.args)) f.2
          ∙ ap (λ (ys : List ℕ). fresh new 0 new.receiver.0 ys) none))),
      (built_whole v w sp b new x plain sender (λ k lo hi. absurd (omega arith)), f.0),
    )
build_top (suc n) v w base fp sp b new st can be x plain =
    let f = be.later (omega arith) in
    let f0 = f.0 in
    let over = st.0.overhead in
    let low = base_below n w base (below w fp) fp st.1 in
    let d = sp - (fp + 10) in
    let len : length (words_from w (fp + 10) d) ≡ d = length-words w (fp + 10) d in
    let kept = d - (new.args + 1) in
    let kept_is : b.frame - (fp + 10) ≡ kept = omega arith in
    let same : Same v w base b.frame = λ k a c. x.below_it k c in
    let values : NoLink w (fp + 1) sp = st.0.values in
    let cut_whole : IsWholeFrame v fp b.frame = whole_to v w fp sp b.frame (omega arith) (λ k a c. x.below_it k (omega arith))
    (λ k a c q. values k (omega arith) (omega arith) (ap (λ (y : ℕ). y % 8) (sym (x.below_it k c)) ∙ q)) st.0 in
    let cut' = top_changed n v w base fp sp b.frame st (λ k a c. x.below_it k (omega arith)) cut_whole in
    let down : get_or v b.frame 0 / 8 ≡ fp = ap (λ (y : ℕ). y / 8) x.overhead.link_is ∙ ((let e : (b.caller * 8 + 4) / 8 ≡ b.caller = omega arith in e) ∙ f.1) in
    let F : ℕ → List Frame = λ l. frames_down (suc n) v base l b.frame in
    let S : ℕ → Type 0 = λ l. Stands (suc n) v base l b.frame in
    let W : ℕ → List ℕ = λ j. words_from w (fp + 10) j in
    let caller = call_cut new.args (frame_at w base fp sp) in
    let rest = frames_down n w base (below w fp) fp in
    let stack : words_from v (fp + 10) (b.frame - (fp + 10)) ≡ take (length (W d) - (new.args + 1)) (W d) =
    words_same v w (fp + 10) (b.frame - (fp + 10)) (λ k a c. x.below_it k (omega arith))
    ∙ (ap W kept_is ∙ (sym (words_take w (fp + 10) kept d (omega arith)) ∙ ap (λ (j : ℕ). take (j - (new.args + 1)) (W d)) (sym len))) in
    let old : frame_at v base fp b.frame ≡ caller =
    overhead_same v w base fp sp b.frame (λ k a c. x.below_it k (omega arith))
    ∙ ap (λ (ys : List ℕ). record (frame_at w base fp sp) { stack = ys }) stack in
    let args : words_from w (sp - new.args) new.args ≡ drop (length (W d) - new.args) (W d) =
    let e : sp - new.args ≡ (fp + 10) + (d - new.args) = omega arith in let g : new.args ≡ d - (d - new.args) = omega arith in
    ap (λ (i : ℕ). words_from w i new.args) e ∙ (ap (λ (j : ℕ). words_from w ((fp + 10) + (d - new.args)) j) g
    ∙ (sym (words_drop w (fp + 10) (d - new.args) d (omega arith)) ∙ ap (λ (j : ℕ). drop (j - new.args) (W d)) (sym len))) in
    let u = used_is n w base (below w fp) fp st.1 in
    let l2 = ap length (sym stack) ∙ length-words v (fp + 10) (b.frame - (fp + 10)) in
    let at : b.frame - base ≡ frames_used (caller ∷ rest) = omega arith in
    let given = drop (length (W d) - new.args) (W d) in
    let new_top : frame_at v base b.frame (end_with b new) ≡ fresh new (frames_used (caller ∷ rest)) nil given =
    built_frame v w base sp b new x
    ∙ (ap (λ (a : ℕ). fresh new a b.sender (words_from w (sp - new.args) new.args)) at
    ∙ (ap (λ (s : ℕ). fresh new (frames_used (caller ∷ rest)) s (words_from w (sp - new.args) new.args)) f.2
    ∙ ap (λ (ys : List ℕ). fresh new (frames_used (caller ∷ rest)) nil ys) args)) in
    let sender : b.sender % 8 ≢ 4 = λ q. (let s = f.2 in omega arith) in
    let whole = built_whole v w sp b new x plain sender (λ k a c. values k (omega arith) (omega arith)) in (
      ap (λ (g : Frame). g ∷ frames_down (suc n) v base (below v b.frame) b.frame) new_top
          ∙ ap (λ (fs : List Frame). fresh new (frames_used (caller ∷ rest)) nil given ∷ fs)
          (ap F down ∙ (cut'.0 ∙ ap (λ (g : Frame). g ∷ rest) old)),
      (whole, subst S (sym down) cut'.1),
    )

-- what the numbers of a call are
pub record Room (w : List ℕ) (p : ℕ) (h : PageHead) (b : Begin) (new : NewFrame) : Type 0 where
  pub args_in : new.args ≤ h.end
  pub taken : 0 < h.count → new.args + 1 ≤ h.end
  pub begin_low : p * 4096 ≤ b.frame
  pub begin_high : b.frame ≤ h.end
  pub caller_in : b.caller ≤ h.end
  pub end_in : end_with b new ≤ p * 4096 + 4096
  pub end_over : h.end ≤ end_with b new
  pub few : h.count ≤ 410

pub room_for : {w : List ℕ} {hs : List PageHead} {p : ℕ} {h : PageHead} {fs : List Frame} {b : Begin} {new : NewFrame} → Opened w hs p h fs
    → frames_used fs + 66 ≤ 4096 → new.args + new.fill ≤ 56 → HasArguments new.args fs → Begins h.count (p * 4096) h.frame h.end b new → Room w p h b new
room_for {w} {p = p} {h = h} {b = b} {new = new} o room size can be =
    let u = used_words o in
    let can' : HasArguments new.args (frames_down h.count w (p * 4096) h.frame h.end) = subst (λ (gs : List Frame). HasArguments new.args gs) o.is can in
    let low = o.low in let high = o.high in
    let c = numbers h.count h.frame h.end o.page.stands can' (omega arith) be.lowest be.later in
    record { args_in = c.0; taken = λ q. (let t = c.6 q in omega arith); begin_low = c.1; begin_high = c.2; caller_in = c.3; end_in = omega (arith, c.4); end_over = c.5; few = omega arith }
  where
    numbers : (n fp sp : ℕ) → Stands n w (p * 4096) fp sp → HasArguments new.args (frames_down n w (p * 4096) fp sp) → p * 4096 ≤ sp
        → (n ≡ 0 → (b.frame ≡ p * 4096) × (b.caller ≡ p * 4096) × (b.sender ≡ new.receiver.0))
        → (0 < n → (b.frame + (new.args + 1) ≡ sp) × (b.caller ≡ fp) × (b.sender ≡ 65536))
        → (new.args ≤ sp) × (p * 4096 ≤ b.frame) × (b.frame ≤ sp) × (b.caller ≤ sp) × (end_with b new ≤ sp + 66) × (sp ≤ end_with b new) × (0 < n → new.args + 1 ≤ sp)
    numbers zero fp sp st can le lowest later =
        let f = lowest refl in let f0 = f.0 in let f1 = f.1 in
        (omega arith, omega arith, omega arith, omega arith, omega arith, omega arith, (λ q. absurd (omega arith)))
    numbers (suc n) fp sp st can le lowest later =
        let f = later (omega arith) in let f0 = f.0 in let f1 = f.1 in
        let over = st.0.overhead in let low = base_below n w (p * 4096) (below w fp) fp st.1 in
        let l = length-words w (fp + 10) (sp - (fp + 10)) in
        (omega arith, omega arith, omega arith, omega arith, omega arith, omega arith, (λ q. omega arith))

pub build_done : {v w : List ℕ} {hs : List PageHead} {ps : List (List Frame)} {h : PageHead} {b : Begin} {new : NewFrame} → AreFramesLaid w hs → pages_of w 0 hs ≡ ps
    → (p : ℕ) → p < length ps → h ≡ get_or hs p h → frames_used (frames_of ps p) + 66 ≤ 4096 → new.args + new.fill ≤ 56 → HasArguments new.args (frames_of ps p) → HoldsValues new
    → Begins h.count (p * 4096) h.frame h.end b new → Built v w h.end b new
    → let h' : PageHead = record { frame = b.frame; end = end_with b new; count = h.count + 1 } in
    AreFramesLaid v (set hs p h') × (pages_of v 0 (set hs p h') ≡ on_page ps p (called new))
build_done {v} {w} {hs} {ps} {h} {b} {new} laid e p lt eh room size can plain be x =
    let o = opened laid e p lt eh in
    let r = room_for o room size can be in
    let base = p * 4096 in
    let h' : PageHead = record { frame = b.frame; end = end_with b new; count = h.count + 1 } in
    let can' : HasArguments new.args (frames_down h.count w base h.frame h.end) = subst (λ (gs : List Frame). HasArguments new.args gs) o.is can in
    let t = build_top h.count v w base h.frame h.end b new o.page.stands can' be x plain in
    let one : suc h.count ≡ h.count + 1 = omega arith in
    let S : ℕ → Type 0 = λ n. (frames_down n v base b.frame (end_with b new) ≡ called new (frames_down h.count w base h.frame h.end)) × Stands n v base b.frame (end_with b new) in
    let t' = subst S one t in
    let lo = r.begin_low in let hi = r.end_in in let up = r.end_over in
    let pg : IsPageOfWords v base h' = record {
      stands = t'.1;
      within = hi;
      free = λ k a c q. o.page.free k (omega arith) c (ap (λ (y : ℕ). y % 8) (sym (x.above_it k a)) ∙ q);
    } in
    let c = closed h' laid e o.page_in x.len (off lo hi) pg in
    (c.0, c.1 ∙ ap (λ (fs : List Frame). set ps p fs) (t'.0 ∙ ap (called new) (sym o.is)))
  where
    off : p * 4096 ≤ b.frame → end_with b new ≤ p * 4096 + 4096 → SameOff v w (p * 4096)
    off lo hi k (inl a) = x.below_it k (omega arith)
    off lo hi k (inr a) = x.above_it k (omega arith)

-- the steps of making a frame, put together
pub built_by : {w w1 w2 w3 : List ℕ} (sp : ℕ) {b : Begin} {new : NewFrame} → length w1 ≡ length w
    → CopiedTo w w1 (sp - new.args) (b.frame + 10) new.args → SameBelow w w1 (b.frame + 10) → SameFrom w w1 (b.frame + 10 + new.args)
    → SameOutside w1 w2 b.frame (b.frame + 10) → HasOverhead w2 b.frame (b.caller * 8 + 4) b.sender new
    → SameOutside w2 w3 (b.frame + 10 + new.args) (b.frame + 10 + new.args + new.fill) → AllAre w3 (b.frame + 10 + new.args) (b.frame + 10 + new.args + new.fill) 65536
    → Built w3 w sp b new
built_by {w} {w1} {w2} {w3} sp {b} {new} len copied copy_below copy_above over_out overhead fill_out nils =
    let up : (k : ℕ) → k < b.frame + 10 + new.args → get_or w3 k 0 ≡ get_or w2 k 0 = fill_out.below in
    record {
      len = fill_out.len ∙ (over_out.len ∙ len);
      below_it = λ k c. up k (omega arith) ∙ (over_out.below k c ∙ copy_below k 0 (omega arith));
      above_it = λ k c. fill_out.above k c ∙ (over_out.above k (omega arith) ∙ copy_above k 0 (omega arith));
      overhead = record {
        link_is = up b.frame (omega arith) ∙ overhead.link_is;
        sender_is = up (b.frame + 1) (omega arith) ∙ overhead.sender_is;
        pc_is = up (b.frame + 2) (omega arith) ∙ overhead.pc_is;
        method_is = up (b.frame + 3) (omega arith) ∙ overhead.method_is;
        closure_is = up (b.frame + 4) (omega arith) ∙ overhead.closure_is;
        context_is = up (b.frame + 5) (omega arith) ∙ overhead.context_is;
        low_is = up (b.frame + 6) (omega arith) ∙ overhead.low_is;
        high_is = up (b.frame + 7) (omega arith) ∙ overhead.high_is;
        receiver_is = up (b.frame + 8) (omega arith) ∙ overhead.receiver_is;
        spare_is = up (b.frame + 9) (omega arith) ∙ overhead.spare_is;
      };
      moved = λ k c. up (b.frame + 10 + k) (omega arith) ∙ (over_out.above (b.frame + 10 + k) (omega arith) ∙ (copied (b.frame + 10 + k) 0 (omega arith) (omega arith)
          ∙ ap (λ (j : ℕ). get_or w (sp - new.args + j) 0) (let q : b.frame + 10 + k - (b.frame + 10) ≡ k = omega arith in q)));
      nils = nils;
    }

-- the new frame is the last of its page
pub built_top : {v : List ℕ} {p : ℕ} (hs : List PageHead) (h : PageHead) → AreFramesLaid v (set hs p h) → p < length hs → 0 < h.count
    → (0 < length (frames_of (pages_of v 0 (set hs p h)) p)) × (h.frame - p * 4096 ≡ (top (frames_of (pages_of v 0 (set hs p h)) p)).at)
built_top {v} {p} hs h laid lt some =
    let qs = pages_of v 0 (set hs p h) in
    let in' : p < length qs = omega (arith, length-pages v 0 (set hs p h), length-set hs p h) in
    let o = opened {ps = qs} laid refl p in' (sym (get_or-set_same hs p h h lt)) in
    let n = some_frame o in
    (omega arith, (top_place o (λ z. omega arith)).0)

-- receiver and arguments stand on the page where it has a frame
pub callable : {w : List ℕ} {hs : List PageHead} {p : ℕ} {h : PageHead} {fs : List Frame} → Opened w hs p h fs → (args : ℕ) → HasArguments args fs → 0 < h.count → args + 1 ≤ h.end
callable {w} {p = p} {h = h} o args can some =
    deep h.count h.frame h.end o.page.stands (subst (λ (gs : List Frame). HasArguments args gs) o.is can) some
  where
    deep : (n fp sp : ℕ) → Stands n w (p * 4096) fp sp → HasArguments args (frames_down n w (p * 4096) fp sp) → 0 < n → args + 1 ≤ sp
    deep zero fp sp st can some = absurd (omega arith)
    deep (suc n) fp sp st can some =
        let over = st.0.overhead in let l = length-words w (fp + 10) (sp - (fp + 10)) in omega arith
