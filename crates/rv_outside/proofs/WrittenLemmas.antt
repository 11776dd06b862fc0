-- What a sink has taken, piece after piece.
use Rattle.std.proofs.Common.{ℕ, ◌++◌, [], List, Option, Some, None, refl, ap, ◌∙◌, append-nil, append_assoc}
use Rattle.rv_outside.specs.Sink.{Adds}

pub adds_nothing : (before : Option (List ℕ)) → Adds before before []
adds_nothing None = refl
adds_nothing (Some bytes) = simp append-nil

pub adds_then : (before mid now : Option (List ℕ)) (x y : List ℕ) → Adds before mid x → Adds mid now y → Adds before now (x ++ y)
adds_then None mid now x y first second = rw first at second
adds_then (Some bytes) mid now x y first second = (rw first at second) ∙ ap Some (append_assoc bytes x y)
