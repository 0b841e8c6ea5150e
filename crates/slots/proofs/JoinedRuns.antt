-- Lists of reports joined up: a run of both is the run of the first, and then that of the second from the record which the first gives.
-- Assumes nothing.
use Rattle.std.specs.Prelude.{None}
use mathlib.Core.Path.{◌≡◌, sym, ap, ◌∙◌}
use mathlib.Core.Logic.{◌≢◌, ⊎_elim}
use mathlib.Core.Bool.{true, false}
use mathlib.Core.List.{List, [], ◌∷◌, ◌++◌}
use Prim.Native.Nat.{ℕ}
use Rattle.refusal.specs.Order.{accepted}
use Rattle.refusal.proofs.Order.{accepted_none}
use Rattle.table.specs.declared.Row.{Row}
use Rattle.rule.proofs.Tests.{split, never}
use Rattle.slots.specs.declared.Record.{Record}
use Rattle.slots.specs.OneSlot.{what, byte_of, step_of}
use Rattle.slots.specs.Reports.{report_refusal, Outcome, onto, run_of}
use Rattle.slots.proofs.RunFacts.{run_none, run_on, run_stops}

-- an outcome whose slots come after those of a log
abbrev pub after : List ℕ → Outcome → Outcome
after log o = record { refusal = o.refusal; next = o.next; log = log ++ o.log }

module _ (rs : List Row) where
  -- the list joined to one whose reports are all accepted
  pub join_run : (q : Record) (xs ys : List ℕ) → (run_of rs q xs).refusal ≡ None → run_of rs q (xs ++ ys) ≡ after (run_of rs q xs).log (run_of rs (run_of rs q xs).next ys)
  join_run q [] ys h = rw (run_none rs q)
  join_run q (x ∷ xs) ys h =
      let more : (run_of rs (step_of rs q x) xs).refusal ≡ None
      → run_of rs (step_of rs q x) (xs ++ ys) ≡ after (run_of rs (step_of rs q x) xs).log (run_of rs (run_of rs (step_of rs q x) xs).next ys) = join_run (step_of rs q x) xs ys in
      ⊎_elim (λ (e : accepted (report_refusal (what rs q) x) ≡ true).
      rw (run_on rs q x xs e) (run_on rs q x (xs ++ ys) e ∙ ap (onto (byte_of (what rs q))) (more (sym (ap (λ (o : Outcome). o.refusal) (run_on rs q x xs e)) ∙ h))))
      (λ (e : accepted (report_refusal (what rs q) x) ≡ false). never (ap accepted (sym (ap (λ (o : Outcome). o.refusal) (run_stops rs q x xs e)) ∙ h)) e)
      (split (accepted (report_refusal (what rs q) x)))

  -- a refusal stops the joined list there too
  pub join_stopped : (q : Record) (xs ys : List ℕ) → (run_of rs q xs).refusal ≢ None → run_of rs q (xs ++ ys) ≡ run_of rs q xs
  join_stopped q [] ys h = absurd (h (ap (λ (o : Outcome). o.refusal) (run_none rs q)))
  join_stopped q (x ∷ xs) ys h =
      let more : (run_of rs (step_of rs q x) xs).refusal ≢ None → run_of rs (step_of rs q x) (xs ++ ys) ≡ run_of rs (step_of rs q x) xs = join_stopped (step_of rs q x) xs ys in
      ⊎_elim (λ (e : accepted (report_refusal (what rs q) x) ≡ true).
      run_on rs q x (xs ++ ys) e
      ∙ ap (onto (byte_of (what rs q))) (more (λ n. h (ap (λ (o : Outcome). o.refusal) (run_on rs q x xs e) ∙ n)))
      ∙ sym (run_on rs q x xs e))
      (λ (e : accepted (report_refusal (what rs q) x) ≡ false). run_stops rs q x (xs ++ ys) e ∙ sym (run_stops rs q x xs e))
      (split (accepted (report_refusal (what rs q) x)))

  -- of joined lists that are accepted both are
  module _ (q : Record) (xs ys : List ℕ) (h : (run_of rs q (xs ++ ys)).refusal ≡ None) where
    pub first_none : (run_of rs q xs).refusal ≡ None
    first_none =
        ⊎_elim (λ (e : accepted (run_of rs q xs).refusal ≡ true). accepted_none (run_of rs q xs).refusal e)
        (λ (e : accepted (run_of rs q xs).refusal ≡ false).
        sym (ap (λ (o : Outcome). o.refusal) (join_stopped q xs ys (λ z. never (ap accepted z) e))) ∙ h)
        (split (accepted (run_of rs q xs).refusal))

    pub then_none : (run_of rs (run_of rs q xs).next ys).refusal ≡ None
    then_none = sym (ap (λ (o : Outcome). o.refusal) (join_run q xs ys first_none)) ∙ h
