-- How many slots stand before a type, one type after the other. Assumes nothing.
use mathlib.Core.Path.{◌≡◌}
use mathlib.Core.List.{List}
use Prim.Native.Nat.{ℕ, ◌+◌, ◌<◌, ◌≤◌}
use native.Mathlib.Omega.{arith}
use lib.ListN.{get_or}
use mir.Val.{Fits}
use mir.Syntax.{w8}
use Rattle.shelf.specs.Types.{types_of, type_count, elements_of}
use Rattle.shelf.proofs.ElementsBefore.{before_none, before_next, before_up, before_small}
use Rattle.shelf.specs.Limits.{most_types}
use Rattle.page.specs.Slots.{slots_of, start_of}

pub start_none : (c : List ℕ) → start_of c 0 ≡ 0
unfolding start_of
start_none c = omega (arith, before_none c)

pub start_next : (c : List ℕ) (t : ℕ) → start_of c (t + 1) ≡ start_of c t + type_count c t + 1
unfolding start_of
start_next c t = omega (arith, before_next c t)

pub start_up : (c : List ℕ) (t m : ℕ) → t ≤ m → start_of c t ≤ start_of c m
unfolding start_of
start_up c t m l = omega (arith, before_up c t m l)

pub slots_are : (c : List ℕ) {n m : ℕ} → n ≡ types_of c → m ≡ elements_of c → n + m ≡ slots_of c
unfolding slots_of
slots_are c p q = rw (p, q)

-- however the counts stand, a block of bytes has few slots
module _ (c : List ℕ) (h : (i : ℕ) → Fits w8 (get_or c i 0)) where
  pub slots_small : {n m : ℕ} → n ≡ types_of c → m ≡ elements_of c → n + m < 65536
  unfolding elements_of
  slots_small p q = omega (arith, p, q, (h 40).fits, before_small c h most_types)
