-- Each kind of page by itself: its bytes are its re-encoding exactly if its fixed bytes are right and the rest is zero.
use mathlib.Core.Path.{◌≡◌, refl, sym, ap, ◌∙◌}
use mathlib.Core.Bool.{Bool}
use mathlib.Core.List.{List, [], ◌∷◌, ◌++◌, append_assoc}
use Prim.Native.Nat.{ℕ, ◌+◌, ◌-◌, ◌≤◌, ◌<◌}
use native.Mathlib.Nat.{zero-add}
use native.Mathlib.Omega.{arith}
use lib.ListN.{length, get_or}
use Rattle.octets.specs.Says.{Says}
use Rattle.octets.specs.Runs.{over, part, zeros}
use Rattle.octets.specs.Numbers.{word16, bytes16, bytes32}
use Rattle.octets.proofs.Flags.{says_map}
use Rattle.octets.proofs.Over.{get_or-zeros, over-append, over_zeros}
use Rattle.octets.proofs.Words.{part-two}
use Rattle.octets.proofs.Part.{part-add, part_at, part_length}
use Rattle.model.specs.Lists.{pad}
use Rattle.model.specs.Layouts.{HeadPage, to_head, of_head, to_free, of_free, to_over, of_over}
use Rattle.page.specs.declared.header.Header.{Header}
use Rattle.page.specs.Header.{head_of, front_of, HeadBytes}
use Rattle.page.specs.Free.{FreeBytes}
use Rattle.page.specs.Overflow.{over_front, over_page, OverBytes}
use Rattle.page.proofs.Fronts.{pad-front, pad-rest, pad-of, front-over, zeros-over, rest-over, read16, read32}

-- Header ------------------------------------------------------------------------------------------------------------------

head_bytes : HeadPage → List ℕ
head_bytes q = bytes16 q.n ++ (bytes16 q.root ++ (bytes16 q.height ++ (bytes16 q.free ++ (bytes32 q.count ++ bytes16 q.edition))))

to-head : (L : ℕ) (q : HeadPage) → to_head L q ≡ pad L (head_bytes q)
unfolding to_head head_bytes
to-head L q = refl

head-length : (q : HeadPage) → length (head_bytes q) ≡ 14
unfolding head_bytes bytes16 bytes32
head-length q = refl

head_read : (p : List ℕ) → ((i : ℕ) → get_or p i 0 < 256) → 14 ≤ length p → part p 0 14 ≡ head_bytes (of_head p)
unfolding head_bytes of_head
head_read p b h =
    rw (
      ← read16 p b 0 (omega arith),
      ← read16 p b 2 (omega arith),
      ← read16 p b 4 (omega arith),
      ← read16 p b 6 (omega arith),
      ← read32 p b 8 (omega arith),
      ← read16 p b 12 (omega arith),
    )
    (part-add p 0 2 12 ∙ rw (part-add p 2 2 10, part-add p 4 2 8, part-add p 6 2 6, part-add p 8 4 2))

pub head-says : (p : List ℕ) (r : Bool) → ((i : ℕ) → get_or p i 0 < 256) → 14 ≤ length p
    → Says r (part p 14 (length p - 14) ≡ zeros (length (part p 14 (length p - 14)))) → Says r (HeadBytes p)
head-says p r b h s =
    let n = head-length (of_head p) in
    says_map s
    (λ z. record { long = h; same = pad-of p (head_bytes (of_head p)) 14 n h (head_read p b h) z ∙ sym (to-head (length p) (of_head p)) })
    (λ k. pad-rest p (head_bytes (of_head p)) 14 n h (k.same ∙ to-head (length p) (of_head p)))

pub head-written : (p b q : List ℕ) (h : Header) → HeadBytes p → b ≡ front_of h → q ≡ over p 0 b → q ≡ to_head (length p) (head_of h)
head-written p b q h k f e =
    let z = pad-rest p (head_bytes (of_head p)) 14 (head-length (of_head p)) k.long (k.same ∙ to-head (length p) (of_head p)) in
    let n : b ≡ head_bytes (head_of h) = f ∙ (unfold front_of head_bytes head_of in refl) in
    e ∙ rw n (front-over p (head_bytes (head_of h)) 14 (head-length (head_of h)) k.long z ∙ sym (to-head (length p) (head_of h)))

-- Free page ---------------------------------------------------------------------------------------------------------------

free_bytes : ℕ → List ℕ
free_bytes next = 0 ∷ 0 ∷ bytes16 next

to_free_lem : (L next : ℕ) → to_free L next ≡ pad L (free_bytes next)
unfolding to_free free_bytes
to_free_lem L next = refl

free-length : (next : ℕ) → length (free_bytes next) ≡ 4
unfolding free_bytes bytes16
free-length next = refl

free-over : (z : List ℕ) (next : ℕ) → over z 0 (free_bytes next) ≡ over (over z 0 (0 ∷ 0 ∷ [])) 2 (bytes16 next)
unfolding free_bytes
free-over z next = over-append z 0 (0 ∷ 0 ∷ []) (bytes16 next)

two-zeros : zeros 2 ≡ 0 ∷ 0 ∷ []
unfolding zeros
two-zeros = refl

pub free-written : (n : ℕ) (z q : List ℕ) (next : ℕ) → 4 ≤ n → z ≡ zeros n → q ≡ over z 2 (bytes16 next) → q ≡ to_free n next
free-written n z q next h e f =
    let b : over z 0 (0 ∷ 0 ∷ []) ≡ z = rw (e, ← two-zeros) (over_zeros (zeros n) 0 2 (λ i w. get_or-zeros n (0 + i))) in
    let k : over z 0 (free_bytes next) ≡ over z 2 (bytes16 next) = free-over z next ∙ rw b in
    f ∙ (sym k ∙ (rw e (zeros-over n (free_bytes next) (omega (arith, free-length next))) ∙ sym (to_free_lem n next)))

free-read : (p : List ℕ) → ((i : ℕ) → get_or p i 0 < 256) → 4 ≤ length p → part p 0 4 ≡ get_or p 0 0 ∷ get_or p 1 0 ∷ bytes16 (of_free p)
unfolding of_free
free-read p b h = rw (← read16 p b 2 h) (part-add p 0 2 2 ∙ rw (part-two p 0 (omega arith)))

module _ (p : List ℕ) (h : 4 ≤ length p) where
  pub free-front : FreeBytes p → (get_or p 0 0 ≡ 0) × (get_or p 1 0 ≡ 0)
  unfolding free_bytes
  free-front e =
      let f : part p 0 4 ≡ free_bytes (of_free p) = pad-front p (free_bytes (of_free p)) 4 (free-length (of_free p)) h (e ∙ to_free_lem (length p) (of_free p)) in
      (sym (part_at p 0 4 0 (omega arith)) ∙ ap (λ (l : List ℕ). get_or l 0 0) f, sym (part_at p 0 4 1 (omega arith)) ∙ ap (λ (l : List ℕ). get_or l 1 0) f)

  pub free-says : (r : Bool) → ((i : ℕ) → get_or p i 0 < 256) → get_or p 0 0 ≡ 0 → get_or p 1 0 ≡ 0
      → Says r (part p 4 (length p - 4) ≡ zeros (length (part p 4 (length p - 4)))) → Says r (FreeBytes p)
  free-says r b e f s =
      let n = free-length (of_free p) in
      says_map s
      (λ z. pad-of p (free_bytes (of_free p)) 4 n h (free-read p b h ∙ rw (e, f) (unfold free_bytes in refl)) z ∙ sym (to_free_lem (length p) (of_free p)))
      (λ k. pad-rest p (free_bytes (of_free p)) 4 n h (k ∙ to_free_lem (length p) (of_free p)))

-- Overflow page -----------------------------------------------------------------------------------------------------------

over_bytes : ℕ → List ℕ → List ℕ
over_bytes next held = 3 ∷ 0 ∷ bytes16 next ++ (bytes16 (length held) ++ (0 ∷ 0 ∷ held))

to-over : (L next : ℕ) (held : List ℕ) → to_over L (over_page next held) ≡ pad L (over_bytes next held)
unfolding to_over over_page over_bytes
to-over L next held = refl

over-length : (next : ℕ) (held : List ℕ) → length (over_bytes next held) ≡ 8 + length held
unfolding over_bytes bytes16
over-length next held = omega arith

over-joined : (next : ℕ) (held : List ℕ) → over_front next (length held) ++ held ≡ over_bytes next held
unfolding over_front over_bytes bytes16
over-joined next held = refl

front_length : (next held : ℕ) → length (over_front next held) ≡ 8
unfolding over_front bytes16
front_length next held = refl

pub over-written : (p z f y q held : List ℕ) (next : ℕ) → 8 + length held ≤ length p → z ≡ over p (8 + length held) (zeros (length p - (8 + length held)))
    → f ≡ over_front next (length held) → y ≡ over z 0 f → q ≡ over y 8 held → q ≡ to_over (length p) (over_page next held)
over-written p z f y q held next h e i w v =
    let l : 0 + length f ≡ 8 = ap (λ (x : List ℕ). 0 + length x) i ∙ omega (arith, front_length next (length held)) in
    let j : over z 0 (f ++ held) ≡ over y 8 held = over-append z 0 f held ∙ rw (l, w) in
    let o : f ++ held ≡ over_bytes next held = rw i (over-joined next held) in
    v ∙ (sym j ∙ (rw (o, e) (rest-over p (over_bytes next held) (8 + length held) (over-length next held) h) ∙ sym (to-over (length p) next held)))

over-page : (p : List ℕ) → of_over p ≡ over_page (word16 p 2) (part p 8 (word16 p 4))
unfolding of_over over_page
over-page p = refl

module _ (p : List ℕ) (h : 8 + word16 p 4 ≤ length p) where
  held_bytes : List ℕ
  held_bytes = part p 8 (word16 p 4)

  held-length : length held_bytes ≡ word16 p 4
  unfolding held_bytes
  held-length = part_length p 8 (word16 p 4) h

  own : List ℕ
  own = over_bytes (word16 p 2) held_bytes

  to-own : to_over (length p) (of_over p) ≡ pad (length p) own
  unfolding own held_bytes
  to-own = ap (to_over (length p)) (over-page p) ∙ to-over (length p) (word16 p 2) (part p 8 (word16 p 4))

  own-length : length own ≡ 8 + word16 p 4
  unfolding own
  own-length = omega (arith, over-length (word16 p 2) held_bytes, held-length)

  over-read : ((i : ℕ) → get_or p i 0 < 256)
      → part p 0 (8 + word16 p 4) ≡ get_or p 0 0 ∷ get_or p 1 0 ∷ bytes16 (word16 p 2) ++ (bytes16 (word16 p 4) ++ (get_or p 6 0 ∷ get_or p 7 0 ∷ held_bytes))
  unfolding held_bytes
  over-read b =
      rw (← read16 p b 2 (omega arith), ← read16 p b 4 (omega arith))
      (part-add p 0 8 (word16 p 4) ∙ rw (part-add p 0 2 6, part-add p 2 2 4, part-add p 4 2 2, part-two p 0 (omega arith), part-two p 6 (omega arith))
      (ap (λ (l : List ℕ). get_or p 0 0 ∷ get_or p 1 0 ∷ l) (append_assoc (part p 2 2) (part p 4 2 ++ (get_or p 6 0 ∷ get_or p 7 0 ∷ [])) (part p 8 (word16 p 4))
      ∙ ap (λ (l : List ℕ). part p 2 2 ++ l) (append_assoc (part p 4 2) (get_or p 6 0 ∷ get_or p 7 0 ∷ []) (part p 8 (word16 p 4))))))

  pub over-front : OverBytes p → (get_or p 0 0 ≡ 3) × ((get_or p 1 0 ≡ 0) × ((get_or p 6 0 ≡ 0) × (get_or p 7 0 ≡ 0)))
  over-front k =
      let n : ℕ = 8 + word16 p 4 in
      let f : part p 0 n ≡ own = pad-front p own n own-length h (k.same ∙ to-own) in
      let at : (i : ℕ) → i < n → get_or p i 0 ≡ get_or own i 0 = λ i w. sym (part_at p 0 n i w ∙ rw zero-add) ∙ ap (λ (l : List ℕ). get_or l i 0) f in (
        at 0 (omega arith) ∙ (unfold own over_bytes in refl),
        (
          at 1 (omega arith) ∙ (unfold own over_bytes in refl),
          (at 6 (omega arith) ∙ (unfold own over_bytes bytes16 in refl), at 7 (omega arith) ∙ (unfold own over_bytes bytes16 in refl)),
        ),
      )

  pub over-says : (r : Bool) (e : ℕ) → ((i : ℕ) → get_or p i 0 < 256) → get_or p 0 0 ≡ 3 → get_or p 1 0 ≡ 0 → get_or p 6 0 ≡ 0 → get_or p 7 0 ≡ 0
      → e ≡ 8 + word16 p 4 → Says r (part p e (length p - e) ≡ zeros (length (part p e (length p - e)))) → Says r (OverBytes p)
  over-says r e b w x y z q s =
      let s' : Says r (part p (8 + word16 p 4) (length p - (8 + word16 p 4)) ≡ zeros (length (part p (8 + word16 p 4) (length p - (8 + word16 p 4))))) = rw q at s in
      let f : part p 0 (8 + word16 p 4) ≡ own = over-read b ∙ rw (w, x, y, z) (unfold own over_bytes in rw held-length) in
      says_map s'
      (λ t. record { fits = h; same = pad-of p own (8 + word16 p 4) own-length h f t ∙ sym to-own })
      (λ k. pad-rest p own (8 + word16 p 4) own-length h (k.same ∙ to-own))
