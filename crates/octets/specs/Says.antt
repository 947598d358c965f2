-- A flag that says whether something holds: yes exactly if it does.
use Rattle.std.specs.Prelude.{◌≡◌, Bool, true}

pub record Says (flag : Bool) (P : Type 0) : Type 0 where
  pub sound : flag ≡ true → P
  pub whole : P → flag ≡ true
