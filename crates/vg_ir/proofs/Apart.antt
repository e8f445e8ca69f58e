-- The objects of open frames lie in the stack, and apart.
use Rattle.std.proofs.Common.{◌≡◌, ◌+◌, ◌≤◌, List, [], ◌∷◌, ◌⊎◌, inl, inr, sym, ap, ◌∙◌, arith}
use Rattle.std.specs.Prelude.{flat_map, false}
use Rattle.vg_ir.specs.declared.module.Parts.{Parts}
use Rattle.vg_ir.specs.Memory.{Object}
use Rattle.vg_ir.specs.State.{Placement, Frame, IrState}
use Rattle.vg_ir.specs.Effect.{alloca_object}
use Rattle.vg_ir.specs.Sound.{IsIn, IsOwn, IsFrame, end_of, AreStacked, IsSound, AreApart, alloca_size, IsPlaced, open_objects}
use Rattle.vg_ir.proofs.Membership.{in-append_cases}
use Rattle.vg_ir.proofs.Effects.{stacked-below}

module _ (m : Parts) (p : Placement) (placed : IsPlaced m p) where
  abbrev objects_of : List Frame → List Object
  objects_of fs = flat_map (λ (f : Frame). f.objects) fs

  -- an object of a frame lies in it
  inside : (f : Frame) (o : Object) → IsFrame m p f → IsOwn m p f o → (f.base ≤ o.at) × (o.at + o.size ≤ f.base + p.frame f.function.name.name)
  inside f o frame (i, here, e) = (from, to)
    where
      from : f.base ≤ o.at
      from = let at : o.at ≡ f.base + p.offset f.function.name.name i.result.name = ap (λ (q : Object). q.at) e in omega (arith, at)

      to : o.at + o.size ≤ f.base + p.frame f.function.name.name
      to =
          let at : o.at ≡ f.base + p.offset f.function.name.name i.result.name = ap (λ (q : Object). q.at) e in
          let size : o.size ≡ alloca_size m p i = ap (λ (q : Object). q.size) e in
          let le : p.offset f.function.name.name i.result.name + alloca_size m p i ≤ p.frame f.function.name.name = placed.inside f.function i (frame.defined, here) in
          omega (arith, at, size, le)

  -- an object of waiting frames lies behind the frame below them
  above : (fs : List Frame) (o : Object) → AreStacked m p fs → IsIn o (objects_of fs) → end_of p fs ≤ o.at
  above [] o stacked h = absurd h
  above (f ∷ fs) o stacked h = by_frame (in-append_cases o f.objects (objects_of fs) h) (λ k. above fs o stacked.1 k)
    where
      by_frame : IsIn o f.objects ⊎ IsIn o (objects_of fs) → (IsIn o (objects_of fs) → end_of p fs ≤ o.at) → f.base ≤ o.at
      by_frame (inl k) rest = (inside f o stacked.0.frame (stacked.0.frame.objects o k)).0
      by_frame (inr k) rest =
          let le : end_of p fs ≤ o.at = rest k in
          let e : f.base + p.frame f.function.name.name ≡ end_of p fs = stacked.0.ends in
          omega (arith, le, e)

  -- two objects of one frame
  in_frame : (f : Frame) (a b : Object) → IsFrame m p f → IsOwn m p f a → IsOwn m p f b → AreApart a b
  in_frame f a b frame (i, here_i, ei) (j, here_j, ej) = by_place (placed.apart f.function i j (frame.defined, here_i) (frame.defined, here_j))
    where
      at_a : a.at ≡ f.base + p.offset f.function.name.name i.result.name
      at_a = ap (λ (q : Object). q.at) ei

      at_b : b.at ≡ f.base + p.offset f.function.name.name j.result.name
      at_b = ap (λ (q : Object). q.at) ej

      size_a : a.size ≡ alloca_size m p i
      size_a = ap (λ (q : Object). q.size) ei

      size_b : b.size ≡ alloca_size m p j
      size_b = ap (λ (q : Object). q.size) ej

      one : p.offset f.function.name.name i.result.name ≡ p.offset f.function.name.name j.result.name → alloca_size m p i ≡ alloca_size m p j → alloca_object m p f i ≡ alloca_object m p f j
      one e k = λ t. record { at = f.base + e t; size = k t; constant = false }

      by_place : ((p.offset f.function.name.name i.result.name ≡ p.offset f.function.name.name j.result.name) × (alloca_size m p i ≡ alloca_size m p j)) ⊎ ((p.offset f.function.name.name i.result.name + alloca_size m p i ≤ p.offset f.function.name.name j.result.name) ⊎ (p.offset f.function.name.name j.result.name + alloca_size m p j ≤ p.offset f.function.name.name i.result.name)) → AreApart a b
      by_place (inl both) = inl (ei ∙ one both.0 both.1 ∙ sym ej)
      by_place (inr (inl le)) = inr (inl (omega (arith, at_a, at_b, size_a, le)))
      by_place (inr (inr le)) = inr (inr (omega (arith, at_a, at_b, size_b, le)))

  -- two objects of open frames
  apart-in : (fs : List Frame) (a b : Object) → AreStacked m p fs → IsIn a (objects_of fs) → IsIn b (objects_of fs) → AreApart a b
  apart-in [] a b stacked ha hb = absurd ha
  apart-in (f ∷ fs) a b stacked ha hb =
      by_frames (in-append_cases a f.objects (objects_of fs) ha) (in-append_cases b f.objects (objects_of fs) hb) (λ ka kb. apart-in fs a b stacked.1 ka kb)
    where
      below : (o q : Object) → IsIn o f.objects → IsIn q (objects_of fs) → o.at + o.size ≤ q.at
      below o q ho hq =
          let to : o.at + o.size ≤ f.base + p.frame f.function.name.name = (inside f o stacked.0.frame (stacked.0.frame.objects o ho)).1 in
          let e : f.base + p.frame f.function.name.name ≡ end_of p fs = stacked.0.ends in
          let le : end_of p fs ≤ q.at = above fs q stacked.1 hq in
          omega (arith, to, e, le)

      by_frames : IsIn a f.objects ⊎ IsIn a (objects_of fs) → IsIn b f.objects ⊎ IsIn b (objects_of fs) → (IsIn a (objects_of fs) → IsIn b (objects_of fs) → AreApart a b) → AreApart a b
      by_frames (inl ka) (inl kb) rest = in_frame f a b stacked.0.frame (stacked.0.frame.objects a ka) (stacked.0.frame.objects b kb)
      by_frames (inl ka) (inr kb) rest = inr (inl (below a b ka kb))
      by_frames (inr ka) (inl kb) rest = inr (inr (below b a kb ka))
      by_frames (inr ka) (inr kb) rest = rest ka kb

  -- an object of an open frame lies in the stack
  in_stack-in : (fs : List Frame) (o : Object) → AreStacked m p fs → IsIn o (objects_of fs) → (p.low ≤ o.at) × (o.at + o.size ≤ p.high)
  in_stack-in [] o stacked h = absurd h
  in_stack-in (f ∷ fs) o stacked h = by_frame (in-append_cases o f.objects (objects_of fs) h) (λ k. in_stack-in fs o stacked.1 k)
    where
      by_frame : IsIn o f.objects ⊎ IsIn o (objects_of fs) → (IsIn o (objects_of fs) → (p.low ≤ o.at) × (o.at + o.size ≤ p.high)) → (p.low ≤ o.at) × (o.at + o.size ≤ p.high)
      by_frame (inl k) rest =
          let in_it = inside f o stacked.0.frame (stacked.0.frame.objects o k) in
          let from : f.base ≤ o.at = in_it.0 in
          let to : o.at + o.size ≤ f.base + p.frame f.function.name.name = in_it.1 in
          let low : p.low ≤ f.base = stacked.0.low in
          let high : f.base + p.frame f.function.name.name ≤ p.high = stacked-below m p f fs stacked in
          (omega (arith, from, low), omega (arith, to, high))
      by_frame (inr k) rest = rest k

  -- two objects of open frames of a sound state
  pub apart : (s : IrState) → IsSound m p s → (a b : Object) → IsIn a (open_objects s) → IsIn b (open_objects s) → AreApart a b
  apart s sound a b ha hb = apart-in (s.frame ∷ s.waiting) a b sound.stacked ha hb

  -- an object of an open frame of a sound state
  pub in_stack : (s : IrState) → IsSound m p s → (o : Object) → IsIn o (open_objects s) → (p.low ≤ o.at) × (o.at + o.size ≤ p.high)
  in_stack s sound o h = in_stack-in (s.frame ∷ s.waiting) o sound.stacked h
