-- An expression of `i64` code, written once, from which the proofs about the code follow. `Expr z` is an expression whose value is z.
--     linear e        what e says of its parts: a fact for `omega` (`Parts`)
--     e.within       |z| is at most `e.bound`, which is computed from the bounds of the leaves
--     need e tt       what the code has to show at e's last operation: its result fits an `i64`
--     all-needs e tt  the same at all of e's operations: each of them is  search (all-needs e tt)
--     reads e tt      what the machine has for e, once it has stored and read back each operation's result, is z
-- The `tt` is a test that is computed: each bound is below 2 ^ 63.
-- The leaves:  lit z  a literal;  bounded h  with h : Within K z;  fitting f  with f : SFits w64 z;  nat h  an unsigned number that was cast.
-- And  cap e h  puts a bound of your own, h : Within K z, for the computed one.
use Rattle.std.specs.Prelude.{◌≡◌, refl, ℕ, ◌+◌, ◌*◌, ◌≤◌, ◌^◌, Bool, true, ◌&&◌, T, ltb, ℤ, pos, neg_ℤ, nat_abs, ◌+ℤ◌, ◌-ℤ◌, ◌*ℤ◌}
use Rattle.std.proofs.Common.{sym, ap, subst, ◌∙◌, SFits, to_z, of_z, to_z-of_z}
use Rattle.std.specs.Int.{w64}
use Rattle.std.proofs.Math.Facts.{and_yes}
use Rattle.laws.specs.Parts.{pos_part, neg_part, Diff, diff_at, diff_add, diff_neg, diff_mul, Within}
use Rattle.laws.specs.Bounds.{own_size, within_add, within_sub, within_mul, within_neg, within_fits, fits}

-- `top` is what the machine stores for the expression, its last operation at what was read back for its parts, and `got` is what it reads back then.
-- `small` is the test that the value fits, and `parts` that the parts' values do. `Below` holds the needs at the parts' operations
pub record Expr (z : ℤ) : Type 1 where
  pub up : ℕ
  pub down : ℕ
  pub linear : Diff z up down
  pub bound : ℕ
  pub within : Within bound z
  pub small : Bool
  pub fit : T small → SFits w64 z
  pub parts : Bool
  pub top : ℤ
  pub stored : T parts → top ≡ z
  pub got : ℤ
  pub back : T (parts && small) → got ≡ z
  pub Below : Type 0
  pub below : T parts → Below

abbrev pub machine : ℤ → ℤ
machine z = to_z w64 (of_z w64 z)

pub need : {z : ℤ} (e : Expr z) → T (e.parts && e.small) → SFits w64 e.top
need e t = let s = and_yes e.parts e.small t in subst (SFits w64) (sym (e.stored s.0)) (e.fit s.1)

-- the needs at all of e's operations: each of them is  search (all-needs e tt)
pub all_needs : {z : ℤ} (e : Expr z) → T (e.parts && e.small) → SFits w64 e.top × e.Below
all_needs e t = (need e t, e.below (and_yes e.parts e.small t).0)

pub all_needs₂ : {x y : ℤ} (a : Expr x) (b : Expr y) → T ((a.parts && a.small) && (b.parts && b.small)) → (SFits w64 a.top × a.Below) × (SFits w64 b.top × b.Below)
all_needs₂ a b t = let s = and_yes (a.parts && a.small) (b.parts && b.small) t in (all_needs a s.0, all_needs b s.1)

pub reads : {z : ℤ} (e : Expr z) → T (e.parts && e.small) → e.got ≡ z
reads e t = e.back t

-- what holds of the value holds of what is read back, as at a `return` and at the end of a loop's turn
pub reads_keep : {z : ℤ} (e : Expr z) → T (e.parts && e.small) → (F : ℤ → Type 0) → F z → F e.got
reads_keep e t F h = subst F (sym (e.back t)) h

-- the bound of an argument, as a callee requires it
pub reads_within : {z : ℤ} (e : Expr z) → T (e.parts && e.small) → Within e.bound e.got
reads_within e t = reads_keep e t (Within e.bound) e.within

-- the two operands of an operation, or of a test
pub reads₂ : {R : Type 0} {x y : ℤ} (f : ℤ → ℤ → R) (a : Expr x) (b : Expr y) → T ((a.parts && a.small) && (b.parts && b.small)) → f a.got b.got ≡ f x y
reads₂ f a b t = let s = and_yes (a.parts && a.small) (b.parts && b.small) t in (λ i. f (a.back s.0 i) (b.back s.1 i))

-- what is stored, read back
pub again : {z : ℤ} (p s : Bool) (u : ℤ) → (T p → u ≡ z) → (T s → SFits w64 z) → T (p && s) → machine u ≡ z
again p s u e f t = let r = and_yes p s t in ap machine (e r.0) ∙ to_z-of_z (f r.1)

abbrev leaf : {K : ℕ} (z : ℤ) → Within K z → (s : Bool) → (T s → SFits w64 z) → Expr z
leaf {K} z h s f = record {
  up = pos_part z;
  down = neg_part z;
  linear = diff_at z;
  bound = K;
  within = h;
  small = s;
  fit = f;
  parts = true;
  top = z;
  stored = λ t. refl;
  got = machine z;
  back = again true s z (λ t. refl) f;
  Below = Unit;
  below = λ t. tt;
}

abbrev pub lit : (z : ℤ) → Expr z
lit z = leaf z (own_size z) (ltb (nat_abs z) (2 ^ 63)) (fits (own_size z))

abbrev pub bounded : {K : ℕ} {z : ℤ} → Within K z → Expr z
bounded {K} {z} h = leaf z h (ltb K (2 ^ 63)) (fits h)

abbrev pub fitting : {z : ℤ} → SFits w64 z → Expr z
fitting {z} f = leaf z (within_fits f) true (λ t. f)

-- an unsigned number that was cast, `n as i64`
abbrev pub nat : {K n : ℕ} → n ≤ K → Expr (pos n)
nat {K} {n} h = bounded (record { size = h })

infixl 6 ◌⊕◌ ◌⊖◌
infixl 7 ◌⊛◌
abbrev pub ◌⊕◌ : {x y : ℤ} → Expr x → Expr y → Expr (x +ℤ y)
◌⊕◌ {x} {y} a b = record {
  up = a.up + b.up;
  down = a.down + b.down;
  linear = diff_add a.linear b.linear;
  bound = a.bound + b.bound;
  within = within_add a.within b.within;
  small = ltb (a.bound + b.bound) (2 ^ 63);
  fit = fits (within_add a.within b.within);
  parts = (a.parts && a.small) && (b.parts && b.small);
  top = a.got +ℤ b.got;
  stored = reads₂ ◌+ℤ◌ a b;
  got = machine (a.got +ℤ b.got);
  back = again ((a.parts && a.small) && (b.parts && b.small)) (ltb (a.bound + b.bound) (2 ^ 63)) (a.got +ℤ b.got) (reads₂ ◌+ℤ◌ a b) (fits (within_add a.within b.within));
  Below = (SFits w64 a.top × a.Below) × (SFits w64 b.top × b.Below);
  below = all_needs₂ a b;
}

abbrev pub ◌⊖◌ : {x y : ℤ} → Expr x → Expr y → Expr (x -ℤ y)
◌⊖◌ {x} {y} a b = record {
  up = a.up + b.down;
  down = a.down + b.up;
  linear = diff_add a.linear (diff_neg b.linear);
  bound = a.bound + b.bound;
  within = within_sub a.within b.within;
  small = ltb (a.bound + b.bound) (2 ^ 63);
  fit = fits (within_sub a.within b.within);
  parts = (a.parts && a.small) && (b.parts && b.small);
  top = a.got -ℤ b.got;
  stored = reads₂ ◌-ℤ◌ a b;
  got = machine (a.got -ℤ b.got);
  back = again ((a.parts && a.small) && (b.parts && b.small)) (ltb (a.bound + b.bound) (2 ^ 63)) (a.got -ℤ b.got) (reads₂ ◌-ℤ◌ a b) (fits (within_sub a.within b.within));
  Below = (SFits w64 a.top × a.Below) × (SFits w64 b.top × b.Below);
  below = all_needs₂ a b;
}

abbrev pub ◌⊛◌ : {x y : ℤ} → Expr x → Expr y → Expr (x *ℤ y)
◌⊛◌ {x} {y} a b = record {
  up = a.up * b.up + a.down * b.down;
  down = a.up * b.down + a.down * b.up;
  linear = diff_mul a.linear b.linear;
  bound = a.bound * b.bound;
  within = within_mul a.within b.within;
  small = ltb (a.bound * b.bound) (2 ^ 63);
  fit = fits (within_mul a.within b.within);
  parts = (a.parts && a.small) && (b.parts && b.small);
  top = a.got *ℤ b.got;
  stored = reads₂ ◌*ℤ◌ a b;
  got = machine (a.got *ℤ b.got);
  back = again ((a.parts && a.small) && (b.parts && b.small)) (ltb (a.bound * b.bound) (2 ^ 63)) (a.got *ℤ b.got) (reads₂ ◌*ℤ◌ a b) (fits (within_mul a.within b.within));
  Below = (SFits w64 a.top × a.Below) × (SFits w64 b.top × b.Below);
  below = all_needs₂ a b;
}

-- the code's -x is 0 - x, which is `lit (pos 0) ⊖ x`; this is `neg_ℤ`, for `linear`
abbrev pub ⊝ : {x : ℤ} → Expr x → Expr (neg_ℤ x)
⊝ {x} a = record {
  up = a.down;
  down = a.up;
  linear = diff_neg a.linear;
  bound = a.bound;
  within = within_neg a.within;
  small = ltb a.bound (2 ^ 63);
  fit = fits (within_neg a.within);
  parts = a.parts && a.small;
  top = neg_ℤ a.got;
  stored = λ t. ap neg_ℤ (a.back t);
  got = machine (neg_ℤ a.got);
  back = again (a.parts && a.small) (ltb a.bound (2 ^ 63)) (neg_ℤ a.got) (λ t. ap neg_ℤ (a.back t)) (fits (within_neg a.within));
  Below = SFits w64 a.top × a.Below;
  below = all_needs a;
}

-- a bound of your own for the value of an operation
abbrev pub cap : {K : ℕ} {z : ℤ} → Expr z → Within K z → Expr z
cap {K} {z} a h = record {
  up = a.up;
  down = a.down;
  linear = a.linear;
  bound = K;
  within = h;
  small = ltb K (2 ^ 63);
  fit = fits h;
  parts = a.parts;
  top = a.top;
  stored = a.stored;
  got = machine a.top;
  back = again a.parts (ltb K (2 ^ 63)) a.top a.stored (fits h);
  Below = a.Below;
  below = a.below;
}

pub linear : {z : ℤ} (e : Expr z) → Diff z e.up e.down
linear e = e.linear
