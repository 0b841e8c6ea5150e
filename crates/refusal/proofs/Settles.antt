-- What it is for a contract to settle its function's answer. `post` is the contract as the check reads it from the source.
-- Assumes nothing: these are definitions.
use mathlib.Core.Path.{◌≡◌}
use mathlib.Core.List.{List}
use Prim.Native.Nat.{ℕ}
use contract.Lifetimes.{Lfts}
use borrow.Fn.Kinds.{ParamKind, ResultKind, Out, Dens, res_t, ended_of}
use denote.Triple.Clauses.{AtExit}

-- any two results that meet the contract are equal, whatever stands beside them
abbrev pub Settles : (n : ℕ) (ps : List (ParamKind n)) (r : ResultKind n) → Out n ps r → Type 0
Settles n ps r post = (κs : Lfts n) (a : Dens κs ps) (x y : (res_t r κs).Denot) (s t : AtExit (ended_of n ps r) κs) → post κs a x s → post κs a y t → x ≡ y

-- and what is lent at exit, which `lent` reads, is equal too
abbrev pub SettlesLent : (n : ℕ) (ps : List (ParamKind n)) (r : ResultKind n) → ((κs : Lfts n) → AtExit (ended_of n ps r) κs → List ℕ) → Out n ps r → Type 0
SettlesLent n ps r lent post =
    (κs : Lfts n) (a : Dens κs ps) (x y : (res_t r κs).Denot) (s t : AtExit (ended_of n ps r) κs) → post κs a x s → post κs a y t → (x ≡ y) × (lent κs s ≡ lent κs t)
