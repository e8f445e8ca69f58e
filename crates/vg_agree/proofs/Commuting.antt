-- The diagram of the small pair commutes.
use Rattle.std.proofs.Common.{◌≡◌, ℕ, zero, suc, ◌+◌, Bool, true, false, nat_le, List, [], ◌∷◌, if◌then◌else◌, refl, sym, subst, arith}
use Rattle.vg_agree.specs.Meaning.{Next, StackFull}
use Rattle.vg_agree.specs.Diagram.{Meets, Commutes}
use Rattle.vg_agree.specs.Adding.{sum_step, Place, Fetch, Add, adding}

-- a number that is added, by whether the total has room for it
added : (xs left : List ℕ) (total n : ℕ) (room : Bool) → nat_le (total + suc n) 255 ≡ room → Meets (adding 255 1 2 xs) 1 2 (if room then Next (record { left = left; total = total + suc n }) else StackFull) (Fetch (suc n ∷ left) total)
added xs left total n true is = record {
  moves = 2;
  place = Fetch left (total + suc n);
  at_least = omega arith;
  at_most = omega arith;
  leads = (Add (suc n ∷ left) total, refl, (Fetch left (total + suc n), rw is refl, refl));
  there = refl;
}
added xs left total n false is = record {
  moves = 1;
  place = Add (suc n ∷ left) total;
  at_least = omega arith;
  at_most = omega arith;
  leads = (Add (suc n ∷ left) total, refl, refl);
  there = rw is refl;
}

-- the step of a sum, from the place where its next number is fetched
stepped : (xs left : List ℕ) (total : ℕ) → Meets (adding 255 1 2 xs) 1 2 (sum_step left total) (Fetch left total)
stepped xs [] total = record {
  moves = 1;
  place = Add [] total;
  at_least = omega arith;
  at_most = omega arith;
  leads = (Add [] total, refl, refl);
  there = (refl, refl);
}
stepped xs (zero ∷ left) total = tt
stepped xs (suc n ∷ left) total = added xs left total n (nat_le (total + suc n) 255) refl

-- the diagram commutes, with one move for the start and two for a step
pub adding_commutes : (xs : List ℕ) → Commutes (adding 255 1 2 xs)
adding_commutes xs = record {
  starts = record {
    moves = 1;
    place = Fetch xs 0;
    at_least = omega arith;
    at_most = omega arith;
    leads = (Fetch xs 0, refl, refl);
    there = refl;
  };
  steps = λ s m related.
      let P : Place → Type 0 = λ at. Meets (adding 255 1 2 xs) 1 2 (sum_step s.left s.total) at in
      subst P (sym related) (stepped xs s.left s.total);
}
