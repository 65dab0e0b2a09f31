-- What trying a primitive comes to that answers or fails: one on numbers, or one that reads a context.
use Rattle.std.proofs.Common.{◌≡◌, ◌⊎◌, ℕ, Bool, true, false, refl, sym, ap, subst, ◌∙◌, Option, Some, List, [], inl, inr}
use Rattle.std.specs.Prelude.{◌==◌, ◌&&◌, ◌||◌}
use Rattle.cs_model.specs.declared.stop.Stop.{Stop as Reason}
use Rattle.cs_model.specs.Ref.{Ref}
use Rattle.cs_model.specs.State.{Kept, Run, State}
use Rattle.cs_model.specs.Read.{IsRunning}
use Rattle.cs_model.specs.Context.{is_context_ref}
use Rattle.cs_model.specs.End as ends
use Rattle.cs_model.specs.End.{Out}
use Rattle.cs_model.specs.PrimAnswer.{receiver}
use Rattle.cs_model.specs.PrimRun.{result}
use Rattle.cs_model.specs.PrimTable.{kept_prim, prim}
use Rattle.cs_model.specs.Step.{arguments_of, with_kept}
use Rattle.cs_model.specs.Built.{is_built_number}
use Rattle.cs_acts.specs.declared.act.Full.{Full as Why}
use Rattle.cs_acts.specs.declared.prim.PrimEnd.TheVariants as prims
use Rattle.cs_acts.specs.Layout.{Layout}
use Rattle.cs_acts.specs.Names.{Store}
use Rattle.cs_acts.specs.Primed.{PrimGives, PrimLaid, UnlessFull}
use Rattle.cs_acts.specs.declared.prim.PrimEnd.{PrimEnd}
use Rattle.cs_prim_ctx.specs.Numbers.{reads_context}
use Rattle.cs_core.specs.Stepped.{EndsBy, Fails, TurnGives, run_at, trying}
use Rattle.cs_core.specs.declared.step.StepEnd.{StepEnd}
use Rattle.cs_core.specs.declared.step.StepEnd.TheVariants.{Stopped as Stop, Full}
use Rattle.cs_core.proofs.Coming as comings
use Rattle.cs_core.proofs.Coming.{Comes, trying_fails, trying_full, trying_over, trying_stops}
use Rattle.cs_core.proofs.Laying.{is_same}
use Rattle.cs_core.proofs.Replying.{RepliesBy, Replies, answers, fails, reads_73, reads_210, reads_212}

-- ---- by its number

pub reads_by : (s : State) (number args : ℕ) → reads_context s.kept number args ≡ true → RepliesBy s args number
reads_by s number args h = go (number == 210) (number == 212) (number == 73) refl refl refl h
  where
    go : (a b c : Bool) → (number == 210) ≡ a → (number == 212) ≡ b → (number == 73) ≡ c → (a || b || (c && is_context_ref s.kept (receiver s.kept args))) ≡ true → RepliesBy s args number
    go true b c p q r t = subst (RepliesBy s args) (sym (is_same number 210 p)) (reads_210 s args)
    go false true c p q r t = subst (RepliesBy s args) (sym (is_same number 212 q)) (reads_212 s args)
    go false false true p q r t = subst (RepliesBy s args) (sym (is_same number 73 r)) (reads_73 s args)
    go false false false p q r t = absurd (cc)

reply_comes : {k : Kept} {o : Out} → Replies k o → Comes k k o
reply_comes (answers n x e s) = comings.answers n x e s refl
reply_comes (fails e s) = comings.fails e

-- ---- what it gives

module _ (k : Kept) (x : Ref) (number args : ℕ) (count : arguments_of k x ≡ args) (built : is_built_number k args (Some number) ≡ true) (replies_by : (r : Run) → RepliesBy (with_kept k r) args number) where
  -- what the model makes of it
  abbrev pub made : Out
  made = kept_prim number args k

  by : (r : Run) → prim number args (with_kept k r) ≡ result made r
  by r = (replies_by r).is

  replies : Replies k made
  replies = (replies_by (run_at [] 0)).reply

  comes : Comes k k made
  comes = reply_comes replies

  is_built : is_built_number k (arguments_of k x) (Some number) ≡ true
  is_built = ap (λ n. is_built_number k n (Some number)) count ∙ built

  -- it enters nothing
  not_entered : made.end ≡ ends.Entered → ⊥
  not_entered h = go replies
    where
      go : Replies k made → ⊥
      go (answers n y e s) = let no : ends.Answer ≡ ends.Entered = sym e ∙ h in cc
      go (fails e s) = let no : ends.Fail ≡ ends.Entered = sym e ∙ h in cc

  pub reply_over : (v : Kept) (l n : Option Layout) (told : Option (List ℕ)) (old s : Store) (e : StepEnd) (r : PrimEnd) → IsRunning k → (r ≡ prims.Answer) ⊎ (r ≡ prims.Entered) → PrimGives old s l k k v r made → UnlessFull r (n ≡ l) → EndsBy v e
      → TurnGives (trying k x number) k l told told s v n e
  reply_over v l n told old s e r running (inl is) gives still ended =
      trying_over k k x number args made count is_built by comes v l n told old s e r running (inl is) gives (subst (λ r. PrimLaid k r l n) (sym is) (subst (λ r. UnlessFull r (n ≡ l)) is still)) ended
  reply_over v l n told old s e r running (inr is) gives still ended = absurd (not_entered (subst (λ r. PrimGives old s l k k v r made) is gives).0)

  pub reply_fails : made.end ≡ ends.Fail → Fails k x number
  reply_fails = trying_fails k k x number args made count is_built by comes

  pub reply_stops : (v : Kept) (l n : Option Layout) (told : Option (List ℕ)) (s : Store) (reason : Reason) → made.end ≡ ends.Stopped reason → TurnGives (trying k x number) k l told told s v n (Stop reason)
  reply_stops = trying_stops k k x number args made count is_built by comes

  pub reply_full : (v : Kept) (l n : Option Layout) (told : Option (List ℕ)) (old s : Store) (why : Why) → IsRunning k → PrimGives old s l k k v (prims.Full why) made → TurnGives (trying k x number) k l told told s v n (Full why)
  reply_full = trying_full k k x number args made count is_built by comes

-- ---- where it fails, all is as before

pub fails_still : (k u : Kept) (x y : Ref) (number : ℕ) → u ≡ k → y ≡ x → Fails k x number → Fails u y number
fails_still k u x y number view named h = subst (λ m. Fails m y number) (sym view) (subst (λ z. Fails k z number) (sym named) h)

pub turn_still : (k u : Kept) (x y : Ref) (number : ℕ) (l m n : Option Layout) (told : Option (List ℕ)) (s : Store) (v : Kept) (e : StepEnd) → u ≡ k → y ≡ x → m ≡ l
    → TurnGives (trying u y number) u m told told s v n e → TurnGives (trying k x number) k l told told s v n e
turn_still k u x y number l m n told s v e view named still h =
    subst (λ l. TurnGives (trying k x number) k l told told s v n e) still
    (subst (λ z. TurnGives (trying k z number) k m told told s v n e) named (subst (λ k. TurnGives (trying k y number) k m told told s v n e) view h))
