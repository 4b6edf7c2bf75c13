-- A test made of two, told by the first of them that decides it. Assumes nothing.
use mathlib.Core.Path.{◌≡◌, refl, sym}
use mathlib.Core.Bool.{Bool, true, false, ◌&&◌, ◌||◌, true≢false}

pub or_first : (a b : Bool) → a ≡ true → true ≡ (a || b)
or_first true b h = refl
or_first false b h = absurd (true≢false (sym h))

pub or_second : (a b c : Bool) → a ≡ false → c ≡ b → c ≡ (a || b)
or_second true b c h k = absurd (true≢false h)
or_second false b c h k = k

pub or_none : (a b : Bool) → (a || b) ≡ false → (a ≡ false) × (b ≡ false)
or_none true b h = absurd (true≢false h)
or_none false b h = (refl, h)

pub and_first : (a b : Bool) → a ≡ false → false ≡ (a && b)
and_first true b h = absurd (true≢false h)
and_first false b h = refl

pub and_second : (a b c : Bool) → a ≡ true → c ≡ b → c ≡ (a && b)
and_second true b c h k = k
and_second false b c h k = absurd (true≢false (sym h))
