-- A batch is its lines' single calls one after another, as far as their answers fit: each line leaves a valid store, so the next one does
-- what the single call does on the image of it.
use mathlib.Core.Path.{◌≡◌, refl, sym, ap, ◌∙◌}
use mathlib.Core.Bool.{true, false}
use mathlib.Core.List.{List, [], ◌∷◌, ◌++◌, append_assoc, append-nil}
use Prim.Native.Nat.{ℕ, zero, suc, ◌+◌, ◌-◌, ◌/◌, ◌≤◌}
use native.Mathlib.Nat.{add-zero, zero-add}
use native.Mathlib.Omega.{arith}
use lib.ListN.{length, drop, length-append}
use lib.Dec.{leb, ltb, leb-suc-suc}
use borrow.Author.Tests.{leb-true, leb-false, le-leb, lt-leb, lt-ltb}
use Rattle.octets.specs.Choice.{choose}
use Rattle.octets.specs.Runs.{zeros}
use Rattle.octets.proofs.Choice.{choose-true, either_by}
use Rattle.octets.proofs.Over.{over-front}
use Rattle.model.specs.Lists.{total}
use Rattle.model.specs.Edition.{Edition}
use Rattle.model.specs.Types.{Store}
use Rattle.model.specs.Image.{encode}
use Rattle.model.specs.Decode.{decode}
use Rattle.model.specs.Accept.{accepts, valid}
use Rattle.model.specs.Refusals.{done, damaged, too_short, by_lengths, entered}
use Rattle.model.specs.Batch.{Command, Line, Said, line_done, Progress, stopped, advanced, first_line, run_lines, batch_done, batch_outcome}
use Rattle.model.proofs.Tests.{cases}
use Rattle.model.proofs.Lists.{total-cons}
use Rattle.model.proofs.Editions.{Lawful}
use Rattle.laws_image.proofs.Whole.{accepted, accepted-one}
use Rattle.laws.specs.Ready.{Ready, work_after}
use Rattle.laws.specs.Lines.{line_text, line_image, Does, lines_of, begun, lines_image, lines_text}
use Rattle.laws.proofs.Guarded.{guarded-lengths, guarded-damaged, guarded_ready}
use Rattle.laws.proofs.OneLine.{both, line_does}

leb-behind : (a b c : ℕ) → leb (a + b) (a + c) ≡ leb b c
leb-behind a b c =
    cases (leb b c) (λ t. le-leb (a + b) (a + c) (omega (arith, leb-true b c t)) ∙ sym t) (λ t. lt-leb (a + b) (a + c) (omega (arith, leb-false b c t)) ∙ sym t)

-- A run through the lines -----------------------------------------------------------------------------------------------------

-- from p to q by the lines bs, the first of all
record Ran (E : Edition) (image : List ℕ) (p q : Progress) (all bs : List Line) : Type 0 where
  right : valid E q.store ≡ true
  written : encode E q.store ≡ lines_image E image bs
  text : q.text ≡ p.text ++ lines_text E image bs
  consumed : q.consumed ≡ p.consumed + total (λ l. l.size) bs
  refusal : q.refusal ≡ choose (ltb (length bs) (length all)) too_short p.refusal

module _ (E : Edition) (lawful : Lawful E) (room : ℕ) where
  ran_none : (image : List ℕ) (p : Progress) → valid E p.store ≡ true → encode E p.store ≡ image → Ran E image p p [] []
  unfolding lines_image lines_text total choose
  ran_none image p t e = record { right = t; written = e; text = sym (append-nil _); consumed = sym (add-zero _); refusal = refl }

  ran_stop : (image : List ℕ) (p : Progress) (l : Line) (ls : List Line) → valid E p.store ≡ true → encode E p.store ≡ image
      → Ran E image p (stopped too_short p) (l ∷ ls) []
  unfolding lines_image lines_text total stopped
  ran_stop image p l ls t e =
      record {
        right = t;
        written = e;
        text = sym (append-nil _);
        consumed = sym (add-zero _);
        refusal = sym (choose-true (ltb 0 (suc (length ls))) too_short p.refusal (lt-ltb 0 (suc (length ls)) (omega arith)));
      }

  ran_more : (image : List ℕ) (p q : Progress) (l : Line) (ls bs : List Line) (a : Said) → a.text ≡ line_text E image l.says
      → Ran E (line_image E image l.says) (advanced p l a) q ls bs → Ran E image p q (l ∷ ls) (l ∷ bs)
  unfolding lines_image lines_text advanced
  ran_more image p q l ls bs a e r =
      record {
        right = r.right;
        written = r.written;
        text = r.text ∙ rw (append_assoc, e);
        consumed = omega (arith, r.consumed, total-cons (λ (x : Line). x.size) l bs);
        refusal = r.refusal ∙ rw leb-suc-suc;
      }

  does : (s : Store) (image : List ℕ) (c : Command) → valid E s ≡ true → encode E s ≡ image → Does E image c (line_done E s c)
  does s image c t e = let r = accepted-one E lawful image s t e in rw r.1 at (line_does E lawful image r.0 c)

  run : (most : ℕ) (input : List ℕ) (p : Progress) (image : List ℕ) (left : ℕ) → valid E p.store ≡ true → encode E p.store ≡ image
      → length p.text + left ≡ room → Ran E image p (run_lines E room most input p) (lines_of most input) (begun E left image (lines_of most input))
  unfolding run_lines lines_of begun advanced
  run zero input p image left t e h = ran_none image p t e
  run (suc most) [] p image left t e h = ran_none image p t e
  run (suc most) (x ∷ input) p image left t e h =
      let l = first_line [] (x ∷ input) in
      let a = line_done E p.store l.says in
      let d = does p.store image l.says t e in
      let n : length a.text ≡ length (line_text E image l.says) = ap length d.said in
      let b : leb (length p.text + length a.text) room ≡ leb (length (line_text E image l.says)) left = rw (← h, n) (leb-behind (length p.text) _ left) in
      rw b (both (λ (q : Progress) (bs : List Line). Ran E image p q (lines_of (suc most) (x ∷ input)) bs) (leb (length (line_text E image l.says)) left) _ _ _ _
      (λ f. ran_more image p _ l _ _ a d.said
      (run most (drop l.size (x ∷ input)) (advanced p l a) (line_image E image l.says) (left - length (line_text E image l.says)) d.right d.written
      (omega (arith, length-append p.text a.text, leb-true (length (line_text E image l.says)) left f))))
      (λ f. ran_stop image p l _ t e))

-- The batch -------------------------------------------------------------------------------------------------------------------

-- the lines begun have answers that fit
pub begun-fits : (E : Edition) (room : ℕ) (image : List ℕ) (ls : List Line) → length (lines_text E image (begun E room image ls)) ≤ room
unfolding begun lines_text
begun-fits E room image [] = omega arith
begun-fits E room image (l ∷ ls) =
    let text = line_text E image l.says in
    either_by (λ (bs : List Line). length (lines_text E image bs) ≤ room) (leb (length text) room) _ _
    (λ f. rw length-append (omega (arith, leb-true (length text) room f, begun-fits E (room - length text) (line_image E image l.says) ls)))
    (λ f. omega arith)

-- "1, 9 and 2 refuse the batch, output unchanged"
module _ (E : Edition) (image work input out : List ℕ) where
  pub batch-lengths : let r = by_lengths E (length image) (length work) true true in (r ≡ done → ⊥)
      → batch_outcome E image work input out ≡ record { refusal = r; consumed = 0; written = 0; image = image; work = work; out = out }
  unfolding batch_outcome
  batch-lengths n = guarded-lengths E image work true true _ _ n

  pub batch-damaged : by_lengths E (length image) (length work) true true ≡ done → accepts E image ≡ false
      → batch_outcome E image work input out
      ≡ record { refusal = damaged; consumed = 0; written = 0; image = image; work = entered (zeros (length image / E.width)) work; out = out }
  unfolding batch_outcome
  batch-damaged e t = guarded-damaged E image work true true _ _ e t

module _ (E : Edition) (lawful : Lawful E) (image work input out : List ℕ) (ready : Ready E image work true true) where
  abbrev lines : List Line
  lines = lines_of (length input) input

  abbrev bs : List Line
  bs = begun E (length out) image lines

  batch_run : batch_outcome E image work input out
      ≡ batch_done E (work_after E image work) out (run_lines E (length out) (length input) input (record { refusal = done; consumed = 0; text = []; store = decode E image }))
  unfolding batch_outcome
  batch_run = guarded_ready E image work _ _ _ _ lawful ready

  -- "Each line does what the single call does": the lines begun are those whose answers fit, one after another
  pub batch-lines : batch_outcome E image work input out ≡ record {
    refusal = choose (ltb (length bs) (length lines)) too_short done;
    consumed = total (λ (l : Line). l.size) bs;
    written = length (lines_text E image bs);
    image = lines_image E image bs;
    work = work_after E image work;
    out = lines_text E image bs ++ drop (length (lines_text E image bs)) out;
  }
  unfolding batch_done
  batch-lines =
      let a = accepted E image ready.accepted in
      let r = run E lawful (length out) (length input) input (record { refusal = done; consumed = 0; text = []; store = decode E image }) image (length out) a.0 a.1 (zero-add _) in
      let f = over-front out (lines_text E image bs) (begun-fits E (length out) image lines) in
      batch_run ∙ rw (r.written, r.text, r.consumed, r.refusal, f, zero-add)
