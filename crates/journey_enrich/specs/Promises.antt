pub mod Enrich
