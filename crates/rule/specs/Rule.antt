-- The reservation rule, slot by slot, over any windows and claims and from any first usable slot. Rows are counted from 0 here: row i is document 01's row i + 1.
-- E i s is the end, not included, of row i's window that slot s is in; K i s is what that window's job claims.
-- Assumes nothing: these are definitions.
use Rattle.std.specs.Prelude.{◌≡◌, Bool, false, not, cond, ◌&&◌, ◌||◌, ℕ, zero, suc, ◌-◌, ◌≤◌, ◌<◌, ltb, eqb}
use Rattle.rule.specs.Slots.{within, some, first_of, first_row}

-- how many slots t with a ≤ t < b are free, where H says which are held
abbrev pub between : (ℕ → Bool) → ℕ → ℕ → ℕ
between H a b = within (λ t. not (H t)) a b

-- a job with the window's end e and the claim k reserves slot s: no higher row holds it, and fewer than k such slots of the window lie after it
abbrev pub picks : (ℕ → Bool) → ℕ → ℕ → ℕ → Bool
picks H e k s = not (H s) && ltb (between H (suc s) e) k

module _ (E K : ℕ → ℕ → ℕ) where
  -- 'Take the rows from row 1 down.' One of the first n rows holds slot s
  unfoldable pub held : ℕ → ℕ → Bool
  held zero s = false
  held (suc n) s = held n s || picks (held n) (E n s) (K n s) s

  -- row i holds slot s: 'Each job reserves the latest a slots of its window that no higher row holds.'
  unfoldable pub takes : ℕ → ℕ → Bool
  takes i s = picks (held i) (E i s) (K i s) s

  -- the row, of the first n, that holds slot s, counted from 1; 0 where none does
  unfoldable pub holder : ℕ → ℕ → ℕ
  holder n s = first_row (λ i. takes i s) n

  -- 'The first reserved slot of a job is its notification time': of row i's job with the window from w on, and the window's end where it has none
  unfoldable pub first : ℕ → ℕ → ℕ
  first i w = first_of (takes i) w (E i w - w)

  -- from slot s on 'a window has fewer such slots' than its job claims
  unfoldable pub short : ℕ → ℕ → Bool
  short i s = ltb (between (held i) s (E i s)) (K i s)

  -- where c is the first usable slot, slot s is the first usable one of a window of row i: it is c, or the slot before it is its window's last
  unfoldable pub begins : ℕ → ℕ → ℕ → Bool
  begins c i s = eqb s c || eqb (E i (s - 1)) s

  -- a job of row i is short, of those with windows in the slots from c up to, not including, L
  unfoldable pub lacks : ℕ → ℕ → ℕ → Bool
  lacks c L i = some (λ s. begins c i s && short i s) c (L - c)

  -- 'the first such row is named', of n rows, counted from 1; 0 where no job is short
  unfoldable pub tight_row : ℕ → ℕ → ℕ → ℕ
  tight_row c L n = first_row (lacks c L) n

-- the claims of a record with the clock c, where W says what a fresh job claims: in the clock's own window what is left of row i's job, in any other W
unfoldable pub claimed : (E W : ℕ → ℕ → ℕ) → ℕ → (ℕ → ℕ) → ℕ → ℕ → ℕ
claimed E W c left i s = cond (eqb (E i s) (E i c)) (left i) (W i s)

-- what makes E the ends of windows of n rows: each slot is before its window's end, and the slots from it to there share that end
pub record Windows (E : ℕ → ℕ → ℕ) (n : ℕ) : Type 0 where
  pub inside : (i s : ℕ) → i < n → s < E i s
  pub flat : (i s t : ℕ) → i < n → s ≤ t → t < E i s → E i t ≡ E i s

-- what makes K the claims of their jobs: a claim belongs to a window
abbrev pub Claims : (E K : ℕ → ℕ → ℕ) → ℕ → Type 0
Claims E K n = (i s t : ℕ) → i < n → s ≤ t → t < E i s → K i t ≡ K i s
