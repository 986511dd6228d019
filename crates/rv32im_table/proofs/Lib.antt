pub mod ImmediateLaws
mod Samples
