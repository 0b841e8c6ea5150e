-- The figures of a bag report's answer.
-- Assumes nothing.
use mathlib.Core.Path.{◌≡◌, sym, ◌∙◌}
use Prim.Native.Nat.{ℕ, ◌<◌, ◌≤◌}
use borrow.Author.Tests.{lt-ltb, le-ltb}
use lib.Ieee.{nan}
use lib.ListN.{get_or, get_or-map}
use Rattle.refusal.specs.Numbers.{number_told}
use Rattle.share.specs.declared.Share.{Share}
use Rattle.bagreport.specs.declared.BagReport.{BagReport}
use Rattle.bench.specs.Bags.{counts_number, bag_figure}

-- what a reading past an array would answer: both its counts are 0
abbrev unread : Share
unread = record { mark = 0; done = 0; of = 0; share = nan }

module _ (got : BagReport) (i n : ℕ) where
  pub figure_share : i < 16 → n ≡ counts_number (get_or got.shares i unread) → n ≡ bag_figure got i
  unfolding bag_figure counts_number
  figure_share l e = rw (lt-ltb i 16 l) (e ∙ sym (get_or-map counts_number got.shares i unread))

  pub figure_refusal : 16 ≤ i → n ≡ number_told got.refusal → n ≡ bag_figure got i
  unfolding bag_figure
  figure_refusal l e = rw (le-ltb i 16 l) e
