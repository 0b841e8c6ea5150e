-- Each contract settles its function's result, and each lent place at exit.
-- Assumes nothing.
use mathlib.Core.Path.{sym, ◌∙◌}
use Rattle.refusal.proofs.Settles.{Settles, SettlesLent}
use Rattle.reserve.proofs.check.Kinds as check-kinds
use Rattle.reserve.proofs.check.Reads as check
use Rattle.reserve.proofs.from_clock.Kinds as from-clock-kinds
use Rattle.reserve.proofs.from_clock.Reads as from-clock
use Rattle.reserve.proofs.reservations.Kinds as reservations-kinds
use Rattle.reserve.proofs.reservations.Reads as reservations
use Rattle.reserve.proofs.first_slots.Kinds as first-slots-kinds
use Rattle.reserve.proofs.first_slots.Reads as first-slots

pub check_unique : Settles 0 check-kinds.ps check-kinds.r check.Post
check_unique κs a x y s t p q = p ∙ sym q

pub from_clock_unique : Settles 0 from-clock-kinds.ps from-clock-kinds.r from-clock.Post
from_clock_unique κs a x y s t p q = p ∙ sym q

-- the lent output is the second parameter
pub reservations_unique : SettlesLent 1 reservations-kinds.ps reservations-kinds.r (λ κs s. s.1.0.now) reservations.Post
reservations_unique κs a x y s t p q = (p.0 ∙ sym q.0, p.1 ∙ sym q.1)

pub first_slots_unique : SettlesLent 1 first-slots-kinds.ps first-slots-kinds.r (λ κs s. s.1.0.now) first-slots.Post
first_slots_unique κs a x y s t p q = (p.0 ∙ sym q.0, p.1 ∙ sym q.1)
