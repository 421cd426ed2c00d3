mod Shifting
mod Typed
mod Laying
mod Whole
