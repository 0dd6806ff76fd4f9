-- What the fields of a session's messages hold. Assumes nothing.
use Rattle.std.specs.Prelude.{ℕ, List, [], ◌∷◌}
use Rattle.layout.specs.Layout.{Content}
use Rattle.layout.specs.Layout.Content.{words, figure}

-- a Logon of a CompID with its password, which it keeps
abbrev pub logon_asked : List ℕ → List ℕ → List Content
logon_asked name password = words name ∷ words password ∷ words [] ∷ figure 1 ∷ []

-- a Logout that gives no reason
abbrev pub logout_asked : List Content
logout_asked = words [] ∷ []
