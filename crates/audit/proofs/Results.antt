-- Which results are the same, of any values: stated once, so that no proof looks into large ones.
use Rattle.std.proofs.Common.{◌≡◌, Option, Some, None, Result, Ok, Err}

pub ok_same : {A E : Type 0} (a b : A) → ◌≡◌ {A = Result A E} (Ok a) (Ok b) → a ≡ b
ok_same a b e = cc

pub no_err : {A E : Type 0} (error : E) (a : A) → ◌≡◌ {A = Result A E} (Err error) (Ok a) → ⊥
no_err error a e = cc

pub some_same : {A : Type 0} (a b : A) → ◌≡◌ {A = Option A} (Some a) (Some b) → a ≡ b
some_same a b e = cc

pub no_none : {A : Type 0} (a : A) → ◌≡◌ {A = Option A} None (Some a) → ⊥
no_none a e = cc
