-- The walk down the links from the last frame of a page to the frame at a place.
use Rattle.std.proofs.Common.{◌≡◌, ◌≢◌, ℕ, zero, suc, ◌+◌, ◌<◌, ◌≤◌, List, arith}
use Rattle.cs_frame.specs.Layout.{below, Stands}
use Rattle.cs_frame.proofs.Stacks.{begin_nth, end_nth, lies}

-- the walk is at the frame from fp to sp; the one that it looks for is among those from here down, begins at `at` and ends at `end`
pub record Walk (w : List ℕ) (base at end fp sp : ℕ) : Type 0 where
  pub count : ℕ
  pub index : ℕ
  pub stands : Stands count w base fp sp
  pub inside : index < count
  pub begin_is : begin_nth index w fp ≡ at
  pub end_is : end_nth index w fp sp ≡ end

pub walk_step : (w : List ℕ) (base at end fp sp : ℕ) → Walk w base at end fp sp → fp ≢ at
    → Walk w base at end (below w fp) fp × (below w fp < fp) × (fp < sp)
walk_step w base at end fp sp x ne = step x.count x.index x.stands x.inside x.begin_is x.end_is
  where
    step : (n k : ℕ) → Stands n w base fp sp → k < n → begin_nth k w fp ≡ at → end_nth k w fp sp ≡ end
        → Walk w base at end (below w fp) fp × (below w fp < fp) × (fp < sp)
    step zero k st lt b e = absurd (omega arith)
    step (suc n) zero st lt b e = absurd (ne b)
    step (suc n) (suc k) st lt b e =
        let l = lies n 0 w base (below w fp) fp st.1 (omega arith) in let o = l.whole.overhead in let c = st.0.overhead in
        (record { count = n; index = k; stands = st.1; inside = omega arith; begin_is = b; end_is = e }, omega arith, omega arith)

pub walk_end : (w : List ℕ) (base at end fp sp : ℕ) → Walk w base at end fp sp → fp ≡ at → (sp ≡ end) × (fp + 10 ≤ sp)
walk_end w base at end fp sp x eq = stop x.count x.index x.stands x.inside x.begin_is x.end_is
  where
    stop : (n k : ℕ) → Stands n w base fp sp → k < n → begin_nth k w fp ≡ at → end_nth k w fp sp ≡ end → (sp ≡ end) × (fp + 10 ≤ sp)
    stop zero k st lt b e = absurd (omega arith)
    stop (suc n) zero st lt b e = (e, st.0.overhead)
    stop (suc n) (suc k) st lt b e =
        let l = lies n k w base (below w fp) fp st.1 (omega arith) in let o = l.whole.overhead in let u = l.under in
        absurd (omega arith)
