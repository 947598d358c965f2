-- What holds of each kind of number.
use Rattle.std.specs.Prelude.{◌≡◌, List, ℕ, ◌+◌, ◌*◌, ◌/◌, ◌%◌, length, refl}
use Rattle.std.proofs.Common.{ap, arith}
use Rattle.octets.specs.declared.places.PageNo.{PageNo}
use Rattle.octets.specs.Numbers.{word16, word32, bytes16, bytes32}

-- its bytes are as many as it says, and they are read as that number
pub record NumberLaws {N : Type 0} (width : ℕ) (word : List ℕ → ℕ → N) (bytes : N → List ℕ) : Type 0 where
  pub long : (x : N) → length (bytes x) ≡ width
  pub again : (x : N) → word (bytes x) 0 ≡ x

pub laws16 : NumberLaws 2 word16 bytes16
unfolding word16 bytes16
laws16 = record { long = λ x. refl; again = λ x. let e : x % 256 + 256 * (x / 256) ≡ x = omega arith in e }

pub laws32 : NumberLaws 4 word32 bytes32
unfolding word32 word16 bytes32
laws32 =
    record {
      long = λ x. refl;
      again = λ x.
          let e : x % 256 + 256 * (x / 256 % 256) + 65536 * (x / 65536 % 256 + 256 * (x / 16777216)) ≡ x = omega arith in
          e;
    }

pub laws_page : NumberLaws 2 (λ l i. let p : PageNo = record { 0 = word16 l i } in p) (λ p. bytes16 p.0)
laws_page = record { long = λ p. laws16.long p.0; again = λ p. ap (λ x. let q : PageNo = record { 0 = x } in q) (laws16.again p.0) }
