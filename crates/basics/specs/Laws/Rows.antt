-- Law. The rows of a table hold, one after the other.

-- one row after the other
infixr 4 ◌also◌
abbrev pub ◌also◌ : {A B : Type 0} → A → B → A × B
a also b = (a, b)
