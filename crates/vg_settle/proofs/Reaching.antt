-- Laws of distances: what is reached, ahead and back, and that what is nearer is reached too.
use Rattle.std.proofs.Common.{◌≡◌, ℕ, zero, suc, ◌+◌, ◌-◌, ◌*◌, ◌≤◌, refl, ◌∙◌, ap, arith}
use Rattle.std.proofs.Math.Nat.{mul-le-mul_left}
use Rattle.std.proofs.Math.IntN.{pos, neg_ℤ, ◌-ℤ◌, ◌*ℤ◌, pos-*ℤ-pos, pos-*ℤ-negsuc}
use Rattle.std.proofs.lemmas.Int.{ints}
use Rattle.std.specs.Int.Signed.{◌≤ℤ◌}
use Rattle.vg_settle.specs.declared.item.Short.{Short}
use Rattle.vg_settle.specs.Layout.{distance, Reaches}

-- a product with a number below 0
times_below : (bytes x : ℕ) → pos bytes *ℤ neg_ℤ (pos x) ≡ neg_ℤ (pos (bytes * x))
times_below bytes zero = let e : bytes * 0 ≡ 0 = omega arith in rw e refl
times_below bytes (suc n) = pos-*ℤ-negsuc bytes n

-- the distance of what is ahead
pub distance-ahead : (bytes from lead to : ℕ) → from + lead ≤ to → distance bytes from lead to ≡ pos (bytes * (to - from - lead))
distance-ahead bytes from lead to ahead =
    let e : pos to -ℤ pos from -ℤ pos lead ≡ pos (to - from - lead) = omega (arith, ints) in
    ap (λ z. pos bytes *ℤ z) e ∙ pos-*ℤ-pos bytes (to - from - lead)

-- the distance of what is back
pub distance-back : (bytes from lead to : ℕ) → to ≤ from → distance bytes from lead to ≡ neg_ℤ (pos (bytes * (from - to + lead)))
distance-back bytes from lead to back =
    let e : pos to -ℤ pos from -ℤ pos lead ≡ neg_ℤ (pos (from - to + lead)) = omega (arith, ints) in
    ap (λ z. pos bytes *ℤ z) e ∙ times_below bytes (from - to + lead)

-- what is ahead is reached by the greatest distance
pub reaches-ahead : (short : Short) (bytes from to : ℕ) → from + short.lead ≤ to → short.least ≤ℤ pos 0 → pos (bytes * (to - from - short.lead)) ≤ℤ short.greatest → Reaches short bytes from to
reaches-ahead short bytes from to ahead least near =
    let e = distance-ahead bytes from short.lead to ahead in
    (rw e (omega (arith, ints)), rw e near)

-- what is back is reached by the least distance
pub reaches-back : (short : Short) (bytes from to : ℕ) → to ≤ from → pos 0 ≤ℤ short.greatest → short.least ≤ℤ neg_ℤ (pos (bytes * (from - to + short.lead))) → Reaches short bytes from to
reaches-back short bytes from to back greatest near =
    let e = distance-back bytes from short.lead to back in
    (rw e near, rw e (omega (arith, ints)))

-- how near it is that is reached ahead
pub near-ahead : (short : Short) (bytes from to : ℕ) → from + short.lead ≤ to → Reaches short bytes from to → pos (bytes * (to - from - short.lead)) ≤ℤ short.greatest
near-ahead short bytes from to ahead reaches = rw (distance-ahead bytes from short.lead to ahead) at reaches.1

-- how near it is that is reached back
pub near-back : (short : Short) (bytes from to : ℕ) → to ≤ from → Reaches short bytes from to → short.least ≤ℤ neg_ℤ (pos (bytes * (from - to + short.lead)))
near-back short bytes from to back reaches = rw (distance-back bytes from short.lead to back) at reaches.0

-- what is nearer ahead is reached too
pub nearer-ahead : (short : Short) (bytes from to from' to' : ℕ) → short.least ≤ℤ pos 0 → from + short.lead ≤ to → from' + short.lead ≤ to' → to' + from ≤ to + from' → Reaches short bytes from to → Reaches short bytes from' to'
nearer-ahead short bytes from to from' to' least ahead ahead' nearer reaches =
    let less : to' - from' - short.lead ≤ to - from - short.lead = omega arith in
    let near = near-ahead short bytes from to ahead reaches in
    let times : bytes * (to' - from' - short.lead) ≤ bytes * (to - from - short.lead) = mul-le-mul_left bytes less in
    reaches-ahead short bytes from' to' ahead' least (omega (arith, ints))

-- what is nearer back is reached too
pub nearer-back : (short : Short) (bytes from to from' to' : ℕ) → pos 0 ≤ℤ short.greatest → to ≤ from → to' ≤ from' → from' + to ≤ from + to' → Reaches short bytes from to → Reaches short bytes from' to'
nearer-back short bytes from to from' to' greatest back back' nearer reaches =
    let less : from' - to' + short.lead ≤ from - to + short.lead = omega arith in
    let near = near-back short bytes from to back reaches in
    let times : bytes * (from' - to' + short.lead) ≤ bytes * (from - to + short.lead) = mul-le-mul_left bytes less in
    reaches-back short bytes from' to' back' greatest (omega (arith, ints))
