-- Promise. Whether a message is whole, as the code answers it.
use Rattle.std.specs.Prelude.{Bool}
use Rattle.std.proofs.Math.Option.{Option}
use Rattle.realtime.specs.Tree.{Tree}
use Rattle.basics.specs.Options.{is_some}

abbrev pub is_whole : Option Tree → Bool
is_whole t = is_some t
