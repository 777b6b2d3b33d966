-- The arithmetic of bounds that both judges use, by the rule of the crate stages.
--   Carried      bounds as the program holds them; what is carried by a table of gains; the sizes that the program takes
--   CarriedLaws  sizes of gains, of what is carried, and of what cuts lose
pub mod Carried
pub mod CarriedLaws
